use Rattle.std.proofs.Common.{◌≡◌, ap, ◌∙◌, Some}
use Rattle.vkb_bytes.specs.First.{first_of}
use Rattle.std.proofs.lemmas.Bool.{ltb-true}
use Rattle.reg_registry.specs.Walks.{Walked}
use Rattle.reg_registry.proofs.WalkTestLemmas.{first-is}
use Rattle.reg_registry.proofs.circles.walk.Walk.begins_behind.Goals as goal

pub returns-in-Some-clause-behind : goal.returns-in-Some-clause-behind
returns-in-Some-clause-behind c t =
    let here : Some c.in-Some.group ≡ first_of c.args.self.now.groups = c.in-Some.ensures ∙ ap (λ (x : Walked). first_of x.groups) c.self.view_is in
    let r = first-is c.args.self.now.groups c.in-Some.group here in
    (c.in-Some.group, r.0, r.1, ltb-true c.args.place c.in-Some.group.start t)
