use Rattle.std.proofs.Common.{◌≡◌, length}
use Rattle.vkb_formula.proofs.tests.first_alone.Given as goal

abbrev pub invariant-loop-place : goal.invariant-loop-place
invariant-loop-place l = length l.set.items ≡ l.place
