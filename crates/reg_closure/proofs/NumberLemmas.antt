-- Lists of numbers: what they have, and how many there are.
use Rattle.std.proofs.Common.{◌≡◌, ℕ, suc, ◌<◌, ◌≤◌, ◌⊎◌, inl, inr, ⊎_elim, true, false, eqb, List, [], ◌∷◌, length, slice_get, Some, Contains, refl, sym, subst, arith}
use Rattle.std.specs.List.{AllByRecursion, IsDistinct, list_any}
use Rattle.std.proofs.lemmas.Bool.{cases_eq, eqb-true, ne_eqb, or_cases, true≢false}
use Rattle.std.proofs.lemmas.Map.Steps.{length-le_from_distinct_below}
use Rattle.reg_registry.specs.Naming.{NoneTwice}
use Rattle.reg_closure.proofs.PlacedLemmas.{Contains-cases, Contains-first, Contains-rest, place-of}

pub has-or-not : (xs : List ℕ) (x : ℕ) → Contains xs x ⊎ (Contains xs x → ⊥)
has-or-not [] x = inr (λ c. omega (arith, c.1))
has-or-not (y ∷ ys) x =
    ⊎_elim (λ (e : y ≡ x). inl (subst (λ (z : ℕ). Contains (y ∷ ys) z) e (Contains-first y ys)))
    (λ n. ⊎_elim (λ c. inl (Contains-rest y ys x c)) (λ m. inr (λ c. ⊎_elim n m (Contains-cases y ys x c))) (has-or-not ys x))
    (cases_eq y x)

-- numbers at different places differ
abbrev pub StandOnce : List ℕ → Type 0
StandOnce xs = (at other x : ℕ) → slice_get xs at ≡ Some x → slice_get xs other ≡ Some x → at ≡ other

pub none-twice : (xs : List ℕ) → StandOnce xs → NoneTwice xs
none-twice [] h = tt
none-twice (x ∷ xs) h = (
  (λ c. let p = place-of xs x c in let e : 0 ≡ suc p.0 = h 0 (suc p.0) x refl p.1 in omega (arith, e)),
  none-twice xs (λ at other y a b. let e : suc at ≡ suc other = h (suc at) (suc other) y a b in omega (arith, e)),
)

apart : (x : ℕ) (xs : List ℕ) → (Contains xs x → ⊥) → AllByRecursion (λ y. eqb x y ≡ false) xs
apart x [] n = tt
apart x (y ∷ ys) n = (
  ne_eqb x y (λ (e : x ≡ y). n (subst (λ (z : ℕ). Contains (y ∷ ys) z) (sym e) (Contains-first y ys))),
  apart x ys (λ c. n (Contains-rest y ys x c)),
)

distinct : (xs : List ℕ) → NoneTwice xs → IsDistinct eqb xs
unfolding IsDistinct
distinct [] o = tt
distinct (x ∷ xs) o = (apart x xs o.0, distinct xs o.1)

found : (xs : List ℕ) (x : ℕ) → list_any (eqb x) xs ≡ true → Contains xs x
found [] x e = absurd (true≢false (sym e))
found (y ∷ ys) x e =
    ⊎_elim (λ (s : eqb x y ≡ true). subst (λ (z : ℕ). Contains (y ∷ ys) z) (sym (eqb-true x y s)) (Contains-first y ys))
    (λ r. Contains-rest y ys x (found ys x r)) (or_cases (eqb x y) (list_any (eqb x) ys) e)

-- different numbers below an end are no more than it
pub few-below : (xs : List ℕ) (end : ℕ) → NoneTwice xs → ((x : ℕ) → Contains xs x → x < end) → length xs ≤ end
few-below xs end o h = length-le_from_distinct_below xs end (distinct xs o) (λ q e. h q (found xs q e))
