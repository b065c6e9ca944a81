use Rattle.reg_registry.proofs.WalkTestLemmas.{none-behind}
use Rattle.reg_registry.proofs.circles.walk.Walk.join.Goals as goal

pub returns-clause-joined : goal.returns-clause-joined
returns-clause-joined c = none-behind c.args.rows.now c.loop-self.self c.loop-self.invariant.walk c.args.place (c.begins_behind.ensures.none c.loop-self-test.false)
