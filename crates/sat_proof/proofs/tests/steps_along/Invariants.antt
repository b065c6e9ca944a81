use Rattle.sat_proof.specs.Refutations.{AreWithin}
use Rattle.sat_proof.proofs.tests.steps_along.Given as goal

-- the steps so far
abbrev pub invariant-loop-variable : goal.invariant-loop-variable
invariant-loop-variable l = AreWithin 200000 l.steps.items
