use Rattle.std.proofs.Common.{◌≡◌, ◌↔◌, drop, map}
use Rattle.sat_proof.specs.Propagation.{Refutes}
use Rattle.sat_proof.specs.Refutations.{held_with, hinted}
use Rattle.sat_proof.proofs.judge.refutes.Given as goal

-- what is left decides
abbrev pub invariant-loop-hint : goal.invariant-loop-hint
invariant-loop-hint l = record {
  limit : l.trail.limit ≡ l.initial.trail.limit;
  rest : Refutes l.initial.trail.known (map (hinted (held_with l.clauses.list l.earlier)) l.hints)
      ↔ Refutes l.trail.known (map (hinted (held_with l.clauses.list l.earlier)) (drop l.hint-index l.hints));
}
