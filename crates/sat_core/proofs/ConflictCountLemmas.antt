-- Counting the marked entries under a decision.
use Rattle.std.proofs.Common.{◌≡◌, min, ℕ, zero, suc, ◌+◌, ◌-◌, ◌<◌, ◌≤◌, Bool, true, false, List, [], ◌∷◌, length, set, Some, slice_get, slice_index_or, refl, ◌∙◌, ◌⊎◌, inl, inr, ⊎_elim, arith}
use Rattle.std.proofs.lemmas.Bool.Decides.{eqb_tells}
use Rattle.std.proofs.lemmas.List.{length-set}
use Rattle.std.proofs.lemmas.Option.{same_Some, slice_get_within}
use Rattle.sat_core.specs.declared.entry.Entry.{Entry}
use Rattle.sat_core.specs.Analysing.{Found, IsCounted, IsMarked, marked_under, weight_of}
use Rattle.sat_core.proofs.ConflictMarkLemmas.{marked-set_cases, marked-unset}

pub weight-one : (decision : ℕ) (entry : Entry) → entry.decision ≡ decision → weight_of decision entry true ≡ 1
weight-one decision entry e = ⊎_elim (λ p. rw p.0 refl) (λ p. absurd (p.1 e)) (eqb_tells entry.decision decision)

pub weight-none : (decision : ℕ) (entry : Entry) → (entry.decision ≡ decision → ⊥) → weight_of decision entry true ≡ 0
weight-none decision entry ne = ⊎_elim (λ p. absurd (ne p.1)) (λ p. rw p.0 refl) (eqb_tells entry.decision decision)

pub weight-cases : (decision : ℕ) (entry : Entry) (mark : Bool)
    → ((mark ≡ true) × (entry.decision ≡ decision) × (weight_of decision entry mark ≡ 1)) ⊎ (weight_of decision entry mark ≡ 0)
weight-cases decision entry true =
    ⊎_elim (λ p. inl (refl, p.1, rw p.0 refl)) (λ p. inr (rw p.0 refl)) (eqb_tells entry.decision decision)
weight-cases decision entry false = inr refl

module _ (decision : ℕ) where
  -- one mark is set or taken off
  pub marked-set : (entries : List Entry) (marks : List Bool) (place : ℕ) (entry : Entry) (mark : Bool) → slice_get entries place ≡ Some entry → place < length marks
      → marked_under decision entries (set marks place mark) + weight_of decision entry (slice_index_or marks place false)
      ≡ marked_under decision entries marks + weight_of decision entry mark
  marked-set [] marks place entry mark found h = absurd (cc)
  marked-set (first ∷ entries) [] place entry mark found h = absurd (omega arith)
  marked-set (first ∷ entries) (old ∷ marks) zero entry mark found h = rw (same_Some first entry found) (omega arith)
  marked-set (first ∷ entries) (old ∷ marks) (suc place) entry mark found h = omega (arith, marked-set entries marks place entry mark found (omega arith))

  -- one is there
  pub marked-some : (entries : List Entry) (marks : List Bool) → 0 < marked_under decision entries marks
      → (place : ℕ) × (entry : Entry) × (slice_get entries place ≡ Some entry) × IsMarked marks place × (entry.decision ≡ decision)
  marked-some [] marks h = absurd (omega arith)
  marked-some (entry ∷ entries) [] h = absurd (omega arith)
  marked-some (entry ∷ entries) (mark ∷ marks) h =
      ⊎_elim (λ p. (0, entry, refl, p.0, p.1))
      (λ e. let (place, other, found, marked, under) = marked-some entries marks (omega (arith, e, h)) in (suc place, other, found, marked, under))
      (weight-cases decision entry mark)

  pub marked-positive : (entries : List Entry) (marks : List Bool) (place : ℕ) (entry : Entry) → slice_get entries place ≡ Some entry
      → IsMarked marks place → entry.decision ≡ decision → 0 < marked_under decision entries marks
  marked-positive [] marks place entry found marked e = absurd (cc)
  marked-positive (first ∷ entries) [] place entry found marked e = absurd (cc)
  marked-positive (first ∷ entries) (mark ∷ marks) zero entry found marked e =
      let same : first ≡ entry = same_Some first entry found in
      let one : weight_of decision first mark ≡ 1 = rw (same, marked) (weight-one decision entry e) in
      omega (arith, one)
  marked-positive (first ∷ entries) (mark ∷ marks) (suc place) entry found marked e = omega (arith, marked-positive entries marks place entry found marked e)

  pub marked-most : (entries : List Entry) (marks : List Bool) → marked_under decision entries marks ≤ length marks
  marked-most [] marks = omega arith
  marked-most (entry ∷ entries) [] = omega arith
  marked-most (entry ∷ entries) (mark ∷ marks) =
      ⊎_elim (λ p. omega (arith, p.2, marked-most entries marks)) (λ e. omega (arith, e, marked-most entries marks)) (weight-cases decision entry mark)

  pub marked-none : (entries : List Entry) (marks : List Bool) → ((place : ℕ) → ¬ IsMarked marks place) → marked_under decision entries marks ≡ 0
  marked-none [] marks h = refl
  marked-none (entry ∷ entries) [] h = refl
  marked-none (entry ∷ entries) (mark ∷ marks) h =
      ⊎_elim (λ p. absurd (h 0 p.0)) (λ e. omega (arith, e, marked-none entries marks (λ place. h (suc place)))) (weight-cases decision entry mark)

-- an entry that gets a mark, or loses it
module _ (entries : List Entry) (old : Found) (place : ℕ) (entry : Entry) (found : slice_get entries place ≡ Some entry) (h : IsCounted entries old) where
  within : place < length old.marks
  within = omega (arith, h.each, slice_get_within entries place entry found)

  -- a mark that is left was there before
  left : (other : ℕ) → IsMarked (set old.marks place false) other → old.lowest ≤ other
  left other m = h.above other (marked-unset old.marks place other within m).0

  -- a new mark is above the lower of two places
  raised : (other : ℕ) → IsMarked (set old.marks place true) other → min old.lowest place ≤ other
  raised other m = ⊎_elim (λ was. omega (arith, h.above other was)) (λ e. omega (arith, e)) (marked-set_cases old.marks place other m)

  pub unmark-last : IsMarked old.marks place → entry.decision ≡ old.last
      → (0 < old.pending) × IsCounted entries (record old { marks = set old.marks place false; pending = old.pending - 1 })
  unmark-last marked e =
      let some = marked-positive old.last entries old.marks place entry found marked e in
      let weighs : weight_of old.last entry (slice_index_or old.marks place false) ≡ 1 = rw marked (weight-one old.last entry e) in (
        omega (arith, some, h.count),
        record {
          each = length-set old.marks place false ∙ h.each;
          count = omega (arith, some, weighs, h.count, marked-set old.last entries old.marks place entry false found within);
          above = left;
        },
      )

  pub unmark-other : IsMarked old.marks place → (entry.decision ≡ old.last → ⊥) → IsCounted entries (record old { marks = set old.marks place false })
  unmark-other marked ne =
      let weighs : weight_of old.last entry (slice_index_or old.marks place false) ≡ 0 = rw marked (weight-none old.last entry ne) in
      record {
        each = length-set old.marks place false ∙ h.each;
        count = omega (arith, weighs, h.count, marked-set old.last entries old.marks place entry false found within);
        above = left;
      }

  pub mark-last : slice_index_or old.marks place false ≡ false → entry.decision ≡ old.last
      → (old.pending < length entries) × IsCounted entries (record old { marks = set old.marks place true; pending = old.pending + 1; lowest = min old.lowest place })
  mark-last unmarked e =
      let weighs : weight_of old.last entry (slice_index_or old.marks place false) ≡ 0 = rw unmarked refl in
      let one = weight-one old.last entry e in
      let next : marked_under old.last entries (set old.marks place true) ≡ old.pending + 1
      = omega (arith, one, weighs, h.count, marked-set old.last entries old.marks place entry true found within) in (
        omega (arith, next, marked-most old.last entries (set old.marks place true), length-set old.marks place true, h.each),
        record { each = length-set old.marks place true ∙ h.each; count = omega (arith, next); above = raised },
      )

  pub mark-other : slice_index_or old.marks place false ≡ false → (entry.decision ≡ old.last → ⊥)
      → IsCounted entries (record old { marks = set old.marks place true; lowest = min old.lowest place })
  mark-other unmarked ne =
      let weighs : weight_of old.last entry (slice_index_or old.marks place false) ≡ 0 = rw unmarked refl in
      let none = weight-none old.last entry ne in
      record {
        each = length-set old.marks place true ∙ h.each;
        count = omega (arith, none, weighs, h.count, marked-set old.last entries old.marks place entry true found within);
        above = raised;
      }
