use Rattle.std.proofs.Common.{◌≡◌}
use Rattle.sat_core.proofs.tests.asking.are_answered.Given as goal

abbrev pub invariant-loop-number : goal.invariant-loop-number
invariant-loop-number l = l.vars ≡ l.asker.vars
