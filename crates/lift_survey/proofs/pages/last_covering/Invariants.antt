use Rattle.std.proofs.Common.{◌≤◌, length}
use Rattle.lift_survey.proofs.pages.last_covering.Given as goal

abbrev pub invariant-loop-left : goal.invariant-loop-left
invariant-loop-left l = l.left ≤ length l.withins

abbrev pub decreases-loop-left : goal.decreases-loop-left
decreases-loop-left l = l.left
