use Rattle.std.proofs.Common.{◌≡◌, ◌<◌, true, false, length, slice_index_or, All, Contains, vec_len}
use Rattle.std.specs.Vec.{vec_capacity}
use Rattle.sat_cnf.specs.declared.lit.Lit.{Lit}
use Rattle.sat_proof.proofs.trail.unmark.Given as goal

-- what is marked is still to be taken away
abbrev pub invariant-loop-lit : goal.invariant-loop-lit
invariant-loop-lit l = record {
  marked : (lit : Lit) → slice_index_or l.marks.items lit.0 false ≡ true → Contains l.known.items lit;
  within : All (λ lit. lit.0 < length l.marks.items) l.known.items;
  count : length l.marks.items ≡ length l.initial.marks.items;
  room : vec_capacity l.known ≡ vec_capacity l.initial.known;
}

abbrev pub decreases-loop-lit : goal.decreases-loop-lit
decreases-loop-lit l = vec_len l.known
