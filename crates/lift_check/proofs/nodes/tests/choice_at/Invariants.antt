use Rattle.std.proofs.Common.{◌≡◌, length}
use Rattle.lift_check.proofs.nodes.tests.choice_at.Given as goal

-- the options so far
abbrev pub invariant-loop : goal.invariant-loop
invariant-loop l = length l.choice.items ≡ l.counter
