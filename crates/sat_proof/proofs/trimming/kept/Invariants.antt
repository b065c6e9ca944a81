use Rattle.sat_proof.specs.Trimming.{IsKept}
use Rattle.sat_proof.proofs.trimming.kept.Given as goal

-- the steps before the place
abbrev pub invariant-loop-place : goal.invariant-loop-place
invariant-loop-place l = IsKept l.count l.steps l.stays l.place l.kept.items l.numbers.items
