-- Marks for the literals that are true.
use Rattle.std.proofs.Common.{◌≡◌, ℕ, zero, suc, ◌+◌, ◌<◌, ◌≤◌, ◌↔◌, Bool, true, false, List, [], ◌∷◌, ◌++◌, length, replicate, slice_index_or, set, Contains, refl, sym, ap, subst, ◌∙◌, ⊎_elim, arith, length-append}
use Rattle.std.proofs.lemmas.Bool.{cases_Bool, cases_eq, cases_lt}
use Rattle.std.proofs.lemmas.List.{get_or-set_same, get_or-set_other, get_or_past, length-set}
use Rattle.std.proofs.lemmas.List.Elements.{Contains-append_left, Contains-push, Contains-push_cases}
use Rattle.sat_cnf.specs.declared.lit.Lit.{Lit}
use Rattle.sat_proof.specs.Trails.{IsTrail, unmarked_count}
use Rattle.sat_proof.proofs.LitLemmas.{same-lit}

both-ways : (a : Bool) → a ≡ true → a ≡ false → ⊥
both-ways true p q = cc
both-ways false p q = cc

-- a mark more, and an unmarked literal fewer
unmarked_count-mark : (marks : List Bool) (k : ℕ) → k < length marks → slice_index_or marks k false ≡ false → unmarked_count (set marks k true) + 1 ≡ unmarked_count marks
unmarked_count-mark [] k h e = absurd (omega arith)
unmarked_count-mark (true ∷ marks) zero h e = absurd (cc)
unmarked_count-mark (false ∷ marks) zero h e = omega arith
unmarked_count-mark (true ∷ marks) (suc k) h e = omega (arith, unmarked_count-mark marks k (omega arith) e)
unmarked_count-mark (false ∷ marks) (suc k) h e = omega (arith, unmarked_count-mark marks k (omega arith) e)

pub unmarked_count-none : (marks : List Bool) → ((k : ℕ) → slice_index_or marks k false ≡ false) → unmarked_count marks ≡ length marks
unmarked_count-none [] h = refl
unmarked_count-none (true ∷ marks) h = absurd (both-ways true refl (h 0))
unmarked_count-none (false ∷ marks) h = omega (arith, unmarked_count-none marks (λ k. h (suc k)))

-- a known literal has a mark, so it is below their number
pub marked-within : (marks : List Bool) (known : List Lit) (room : ℕ) → IsTrail marks known room → (lit : Lit) → Contains known lit → lit.0 < length marks
marked-within marks known room t lit c =
    ⊎_elim (λ h. h) (λ h. absurd (both-ways (slice_index_or marks lit.0 false) ((t.marked lit).1 c) (get_or_past marks lit.0 false h)))
    (cases_lt lit.0 (length marks))

module _ (marks : List Bool) (known : List Lit) (room : ℕ) (t : IsTrail marks known room) (lit : Lit) (within : lit.0 < length marks) (fresh : Contains known lit → ⊥) where
  unmarked : slice_index_or marks lit.0 false ≡ false
  unmarked = ⊎_elim (λ yes. absurd (fresh ((t.marked lit).0 yes))) (λ no. no) (cases_Bool (slice_index_or marks lit.0 false))

  pub put-room : length known < room
  put-room = omega (arith, t.counted, t.fits, unmarked_count-mark marks lit.0 within unmarked)

  put-marked : (other : Lit) → (slice_index_or (set marks lit.0 true) other.0 false ≡ true) ↔ Contains (known ++ lit ∷ []) other
  put-marked other =
      ⊎_elim
      (λ e. (
        λ _. subst (Contains (known ++ lit ∷ [])) (same-lit lit other (sym e)) (Contains-push known lit),
        λ _. rw e (get_or-set_same marks lit.0 true false within),
      ))
      (λ ne.
      let kept : slice_index_or (set marks lit.0 true) other.0 false ≡ slice_index_or marks other.0 false = get_or-set_other marks lit.0 other.0 true false ne in (
        λ m. Contains-append_left known (lit ∷ []) other ((t.marked other).0 (sym kept ∙ m)),
        λ c. kept ∙ ⊎_elim (λ old. (t.marked other).1 old) (λ e. absurd (ne (ap (λ l. l.0) (sym e)))) (Contains-push_cases known lit other c),
      ))
      (cases_eq other.0 lit.0)

  pub IsTrail-put : IsTrail (set marks lit.0 true) (known ++ lit ∷ []) room
  IsTrail-put = record {
    marked = put-marked;
    counted = omega (arith, t.counted, unmarked_count-mark marks lit.0 within unmarked, length-set marks lit.0 true, length-append known (lit ∷ []));
    fits = omega (arith, t.fits, length-set marks lit.0 true);
  }

pub IsTrail-clear : (marks : List Bool) (room : ℕ) → ((k : ℕ) → slice_index_or marks k false ≡ false) → length marks ≤ room → IsTrail marks [] room
IsTrail-clear marks room h le = record {
  marked = λ lit. (λ e. absurd (both-ways (slice_index_or marks lit.0 false) e (h lit.0)), λ c. absurd (omega (arith, c.1)));
  counted = omega (arith, unmarked_count-none marks h);
  fits = le;
}

pub ruleset marking = (put-room, IsTrail-put)

pub none-marked : (marks : List Bool) (known : List Lit) → length known ≡ 0 → ((lit : Lit) → slice_index_or marks lit.0 false ≡ true → Contains known lit)
    → (place : ℕ) → slice_index_or marks place false ≡ false
none-marked marks known e h place =
    ⊎_elim (λ yes. let c : Contains known (record { 0 = place }) = h (record { 0 = place }) yes in absurd (omega (arith, c.1, e))) (λ no. no)
    (cases_Bool (slice_index_or marks place false))

pub none-replicate : (n k : ℕ) → slice_index_or (replicate n false) k false ≡ false
none-replicate zero k = refl
none-replicate (suc n) zero = refl
none-replicate (suc n) (suc k) = none-replicate n k
