use Rattle.std.proofs.Common.{◌≡◌, ◌<◌, ◌∷◌, sym, subst}
use Rattle.reg_registry.specs.Walks.{IsFirstWith, IsSpent, IsWalk, Walked, steps_of}
use Rattle.reg_registry.proofs.WalkCloseLemmas.{close-step}
use Rattle.reg_registry.proofs.WalkTestLemmas.{path-within, popped-rest, spent-at}
use Rattle.reg_registry.proofs.circles.walk.Walk.close.Goals as goal

pub finish-requires-clause-known : goal.finish-requires-clause-known
finish-requires-clause-known c = path-within c.args.rows.now _ (subst (IsWalk c.args.rows.now) (sym c.self.view_is) c.requires.walk)

pub returns-in-Some-clause-walk : goal.returns-in-Some-clause-walk
returns-in-Some-clause-walk c =
    let walk = subst (IsWalk c.args.rows.now) (sym c.self.view_is) c.requires.walk in
    let spent = subst IsSpent (sym c.self.view_is) c.requires.spent in
    let last : c.self.inside.groups ≡ c.in-Some.group ∷ c.pop.new.self =
    popped-rest c.self.inside.groups c.in-Some.group c.pop.result c.pop.new.self c.in-Some.ensures c.pop.ensures in
    (close-step c.args.rows.now _ walk c.in-Some.group.start (spent-at _ c.in-Some.group c.pop.new.self last spent)
    c.first_with-self-inside.result c.finish.new.marks.items c.finish.new.path.items c.pop.new.self
    (subst (λ (x : Walked). IsFirstWith c.args.rows.now x c.in-Some.group.start c.first_with-self-inside.result) (sym c.self.view_is) c.first_with-self-inside.ensures)
    c.finish.ensures.marks c.finish.ensures.path last).0

pub returns-in-Some-clause-fewer : goal.returns-in-Some-clause-fewer
returns-in-Some-clause-fewer c =
    subst (λ (x : Walked). steps_of c.args.rows.now (record { marks = c.finish.new.marks.items; path = c.finish.new.path.items; ahead = c.self.inside.ahead.items; groups = c.pop.new.self; first = c.first_with-self-inside.result }) < steps_of c.args.rows.now x) c.self.view_is
    (let walk = subst (IsWalk c.args.rows.now) (sym c.self.view_is) c.requires.walk in
    let spent = subst IsSpent (sym c.self.view_is) c.requires.spent in
    let last : c.self.inside.groups ≡ c.in-Some.group ∷ c.pop.new.self =
    popped-rest c.self.inside.groups c.in-Some.group c.pop.result c.pop.new.self c.in-Some.ensures c.pop.ensures in
    (close-step c.args.rows.now _ walk c.in-Some.group.start (spent-at _ c.in-Some.group c.pop.new.self last spent)
    c.first_with-self-inside.result c.finish.new.marks.items c.finish.new.path.items c.pop.new.self
    (subst (λ (x : Walked). IsFirstWith c.args.rows.now x c.in-Some.group.start c.first_with-self-inside.result) (sym c.self.view_is) c.first_with-self-inside.ensures)
    c.finish.ensures.marks c.finish.ensures.path last).1)
