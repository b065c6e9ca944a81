use Rattle.std.proofs.Common.{◌≡◌, take, map}
use Rattle.sat_cnf.specs.Lits.{negation_of}
use Rattle.sat_proof.specs.Refutations.{IsConsistent}
use Rattle.sat_proof.specs.Trails.{HasSame}
use Rattle.sat_proof.proofs.judge.deny.Given as goal

-- the literals so far are false
abbrev pub invariant-loop-lit : goal.invariant-loop-lit
invariant-loop-lit l = record {
  limit : l.trail.limit ≡ l.initial.trail.limit;
  consistent : IsConsistent (take l.lit-index l.clause);
  known : HasSame l.trail.known (map negation_of (take l.lit-index l.clause));
}
