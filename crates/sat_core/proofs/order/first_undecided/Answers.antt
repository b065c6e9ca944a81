use Rattle.sat_core.proofs.SolvingLemmas.{none-undecided}
use Rattle.sat_core.proofs.order.first_undecided.Goals as goal

pub loop-variable-preserved : goal.loop-variable-preserved
loop-variable-preserved c = none-undecided _ c.loop-variable.variable c.value.result c.loop-variable.invariant c.value.ensures c.if-is_none.ensures
