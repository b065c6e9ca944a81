use Rattle.std.proofs.Common.{◌≡◌, ℕ, ◌+◌, ◌↔◌, ◌⊎◌, true, false, length, take, slice_index_or, Contains}
use Rattle.sat_proof.proofs.trimming.mark.Given as goal

-- what the hints so far mean is marked
abbrev pub invariant-loop-hint : goal.invariant-loop-hint
invariant-loop-hint l = record {
  each : length l.stays.items ≡ length l.initial.stays.items;
  marks : (place : ℕ) → (slice_index_or l.stays.items place false ≡ true)
      ↔ ((slice_index_or l.initial.stays.items place false ≡ true) ⊎ Contains (take l.hint-index l.hints) (l.count + place));
}
