use Rattle.std.proofs.Common.{sym, subst}
use Rattle.reg_registry.proofs.WalkTestLemmas.{IsToJoin, join-step}
use Rattle.reg_registry.proofs.circles.walk.Walk.join_last.Goals as goal

pub returns-clause-walk : goal.returns-clause-walk
returns-clause-walk c =
    (join-step c.args.rows.now c.args.place _ c.pop.result c.pop.new.self
    (subst (IsToJoin c.args.rows.now c.args.place) (sym c.self.view_is) (c.requires.walk, c.requires.ahead, c.requires.behind)) c.pop.ensures).0

pub returns-clause-ahead : goal.returns-clause-ahead
returns-clause-ahead c =
    (join-step c.args.rows.now c.args.place _ c.pop.result c.pop.new.self
    (subst (IsToJoin c.args.rows.now c.args.place) (sym c.self.view_is) (c.requires.walk, c.requires.ahead, c.requires.behind)) c.pop.ensures).1
