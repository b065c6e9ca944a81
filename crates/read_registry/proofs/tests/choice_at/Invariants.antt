use Rattle.std.proofs.Common.{◌≡◌, length}
use Rattle.read_registry.proofs.tests.choice_at.Given as goal

-- the options so far
abbrev pub invariant-loop : goal.invariant-loop
invariant-loop l = length l.chosen.items ≡ l.counter
