use Rattle.std.proofs.Common.{take}
use Rattle.sat_proof.specs.Trails.{IsOpen}
use Rattle.sat_proof.proofs.judge.examine.Given as goal

-- what the literals so far are
abbrev pub invariant-loop-lit : goal.invariant-loop-lit
invariant-loop-lit l = IsOpen l.trail.known (take l.lit-index l.clause) l.only
