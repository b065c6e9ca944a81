-- How the clauses lie in their two vectors.
use Rattle.std.proofs.Common.{◌≡◌, ℕ, zero, suc, ◌-◌, ◌<◌, ◌≤◌, List, [], ◌∷◌, ◌++◌, length, drop, Some, slice_get, slice_index, refl, ap, arith, length-append, length-drop}
use Rattle.std.specs.List.{slice_range}
use Rattle.std.proofs.lemmas.List.{take-append-le, drop-append-le, take_all}
use Rattle.std.proofs.Math.Seq.{drop-append_seam}
use Rattle.sat_cnf.specs.declared.lit.Lit.{Lit}
use Rattle.sat_cnf.specs.Clauses.{AreEnds, cut_at, start_of}

pub length-cut_at : (from : ℕ) (ends : List ℕ) (literals : List Lit) → length (cut_at from ends literals) ≡ length ends
length-cut_at from [] literals = refl
length-cut_at from (end ∷ ends) literals = ap suc (length-cut_at end ends literals)

pub start_of-zero : (from : ℕ) (ends : List ℕ) (k : ℕ) → k ≡ 0 → start_of from ends k ≡ from
start_of-zero from [] k h = refl
start_of-zero from (end ∷ ends) zero h = refl
start_of-zero from (end ∷ ends) (suc k) h = absurd (omega arith)

start_of-suc : (from : ℕ) (ends : List ℕ) (k : ℕ) → suc k < length ends → start_of from ends (suc k) ≡ slice_index ends k
start_of-suc from [] k within = absurd (omega arith)
start_of-suc from (end ∷ ends) zero within = start_of-zero end ends 0 refl
start_of-suc from (end ∷ ends) (suc k) within = start_of-suc end ends k (omega arith)

pub start_of-next : (from : ℕ) (ends : List ℕ) (k : ℕ) → 0 < k → k < length ends → start_of from ends k ≡ slice_index ends (k - 1)
start_of-next from ends zero h within = absurd (omega arith)
start_of-next from ends (suc k) h within = let e : suc k - 1 ≡ k = omega arith in rw e (start_of-suc from ends k within)

ends-le : (from : ℕ) (ends : List ℕ) (to : ℕ) → AreEnds from ends to → from ≤ to
ends-le from [] to h = omega (arith, h)
ends-le from (end ∷ ends) to h = omega (arith, h.0, ends-le end ends to h.1)

-- a clause ends behind its start, and within the literals
pub start_of-le : (from : ℕ) (ends : List ℕ) (to k : ℕ) → AreEnds from ends to → k < length ends
    → (from ≤ start_of from ends k) × (start_of from ends k ≤ slice_index ends k) × (slice_index ends k ≤ to)
start_of-le from [] to k h within = absurd (omega arith)
start_of-le from (end ∷ ends) to zero h within = (omega arith, h.0, ends-le end ends to h.1)
start_of-le from (end ∷ ends) to (suc k) h within =
    let r = start_of-le end ends to k h.1 (omega arith) in
    (omega (arith, h.0, r.0), r.1, r.2)

pub slice_get-cut_at : (from : ℕ) (ends : List ℕ) (literals : List Lit) (k : ℕ) → k < length ends
    → slice_get (cut_at from ends literals) k ≡ Some (slice_range literals (start_of from ends k) (slice_index ends k))
slice_get-cut_at from [] literals k within = absurd (omega arith)
slice_get-cut_at from (end ∷ ends) literals zero within = refl
slice_get-cut_at from (end ∷ ends) literals (suc k) within = slice_get-cut_at end ends literals k (omega arith)

-- a clause that is put last
pub AreEnds-push : (from : ℕ) (ends : List ℕ) (to more : ℕ) → AreEnds from ends to → to ≤ more → AreEnds from (ends ++ more ∷ []) more
AreEnds-push from [] to more h le = (omega (arith, h), refl)
AreEnds-push from (end ∷ ends) to more h le = (h.0, AreEnds-push end ends to more h.1 le)

slice_range-append-le : (literals more : List Lit) (from to : ℕ) → from ≤ to → to ≤ length literals
    → slice_range (literals ++ more) from to ≡ slice_range literals from to
slice_range-append-le literals more from to le within =
    let a : from ≤ length literals = omega arith in
    let b : to - from ≤ length (drop from literals) = omega (arith, length-drop from literals) in
    rw (drop-append-le from literals more a) (take-append-le (to - from) (drop from literals) more b)

pub cut_at-push : (from : ℕ) (ends : List ℕ) (literals clause : List Lit) → AreEnds from ends (length literals)
    → cut_at from (ends ++ length (literals ++ clause) ∷ []) (literals ++ clause) ≡ cut_at from ends literals ++ clause ∷ []
cut_at-push from [] literals clause h =
    ap (λ piece. piece ∷ []) (rw (h, drop-append_seam literals clause, length-append literals clause) (take_all _ clause (omega arith)))
cut_at-push from (end ∷ ends) literals clause h =
    let first : slice_range (literals ++ clause) from end ≡ slice_range literals from end =
    slice_range-append-le literals clause from end h.0 (ends-le end ends (length literals) h.1) in
    let rest = cut_at-push end ends literals clause h.1 in
    cc

pub ruleset places = (start_of-zero, start_of-next, start_of-le, length-cut_at)
