use Rattle.std.proofs.Common.{sym, subst}
use Rattle.reg_registry.specs.Walks.{IsAhead, IsPast, IsWalk, Walked}
use Rattle.reg_registry.proofs.WalkTestLemmas.{skip-step}
use Rattle.reg_registry.proofs.circles.walk.Walk.skip.Goals as goal

pub returns-clause-walk : goal.returns-clause-walk
returns-clause-walk c =
    skip-step c.args.rows.now _ _ c.pop.new.self.items (subst (IsWalk c.args.rows.now) (sym c.self.view_is) c.requires.walk)
    c.requires.ahead.0
    (subst (λ (x : Walked). IsAhead x c.requires.ahead.0) (sym c.self.view_is) c.requires.ahead.1)
    (subst (λ (x : Walked). IsPast x c.requires.ahead.0) (sym c.self.view_is) c.requires.ahead.2)
    c.self.inside.ahead.ok.0 c.pop.ensures.rest
