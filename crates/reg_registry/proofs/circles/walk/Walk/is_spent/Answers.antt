use Rattle.std.proofs.Common.{◌≡◌, length, sym, ap, ◌∙◌, Some, eq-eqb, eqb-true}
use Rattle.vkb_bytes.specs.First.{first_of}
use Rattle.reg_registry.specs.Walks.{Walked}
use Rattle.reg_registry.proofs.WalkTestLemmas.{by-spent, spent-by}
use Rattle.reg_registry.proofs.circles.walk.Walk.is_spent.Goals as goal

pub returns-in-Some : goal.returns-in-Some
returns-in-Some c =
    let here : Some c.in-Some.group ≡ first_of c.args.self.now.groups = c.in-Some.ensures ∙ ap (λ (x : Walked). first_of x.groups) c.self.view_is in
    let len : c.len.result ≡ length c.args.self.now.ahead =
    c.len.ensures ∙ c.self.inside.ahead.ok.0 ∙ ap (λ (x : Walked). length x.ahead) c.self.view_is in (
      λ t. spent-by c.args.self.now c.in-Some.group here (eqb-true c.in-Some.group.ahead c.len.result t ∙ len),
      λ s. eq-eqb c.in-Some.group.ahead c.len.result (by-spent c.args.self.now c.in-Some.group here s ∙ sym len),
    )
