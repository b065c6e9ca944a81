use Rattle.std.proofs.Common.{◌≡◌, ◌-◌, length, ap, ◌∙◌, List, ℕ, take, drop, length-drop, arith}
use Rattle.std.proofs.lemmas.List.{take_all}
use Rattle.reg_registry.specs.Walks.{Walked}
use Rattle.reg_registry.proofs.WalkCloseLemmas.{first-least}
use Rattle.reg_registry.proofs.circles.walk.Walk.first_with.Goals as goal

pub returns-then-is_circular : goal.returns-then-is_circular
returns-then-is_circular c =
    let path : c.deref.result.now ≡ c.args.self.now.path = c.deref.ensures.value ∙ ap (λ (x : Walked). x.path) c.self.view_is in
    let names : take (length c.deref.result.now - c.args.start) (drop c.args.start c.deref.result.now) ≡ drop c.args.start c.args.self.now.path =
    take_all (length c.deref.result.now - c.args.start) (drop c.args.start c.deref.result.now) (omega (arith, length-drop c.args.start c.deref.result.now))
    ∙ ap (λ (x : List ℕ). drop c.args.start x) path in
    let first = ap (λ (x : Walked). x.first) c.self.view_is in
    first-least c.args.rows.now c.args.self.now c.requires.walk c.args.start c.requires.spent c.least.result
    (c.is_circular.ensures.all c.if-is_circular.true)
    (rw names at c.least.ensures.among)
    (rw first at c.least.ensures.before)
    (rw (names, first) at c.least.ensures.one)
