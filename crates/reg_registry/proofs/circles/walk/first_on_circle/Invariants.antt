use Rattle.reg_registry.specs.Walks.{IsWalk, steps_of}
use Rattle.reg_registry.proofs.circles.walk.first_on_circle.Given as goal

abbrev pub invariant-loop-walk : goal.invariant-loop-walk
invariant-loop-walk l = IsWalk l.rows l.walk

abbrev pub decreases-loop-walk : goal.decreases-loop-walk
decreases-loop-walk l = steps_of l.rows l.walk
