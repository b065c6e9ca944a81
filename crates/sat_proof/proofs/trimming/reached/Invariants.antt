use Rattle.std.proofs.Common.{◌≤◌, length}
use Rattle.sat_proof.specs.Trimming.{IsMarked}
use Rattle.sat_proof.proofs.trimming.reached.Given as goal

-- the steps from the place on have marked what they hint at
abbrev pub invariant-loop-place : goal.invariant-loop-place
invariant-loop-place l = record {
  within : l.place ≤ length l.steps;
  marked : IsMarked l.count l.steps l.place l.stays.items;
}

abbrev pub decreases-loop-place : goal.decreases-loop-place
decreases-loop-place l = l.place
