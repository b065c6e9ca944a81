use Rattle.sat_proof.specs.Refutations.{AreWithin}
use Rattle.sat_proof.proofs.tests.steps_of.Given as goal

-- the steps so far
abbrev pub invariant-loop-clause : goal.invariant-loop-clause
invariant-loop-clause l = AreWithin 200000 l.steps.items
