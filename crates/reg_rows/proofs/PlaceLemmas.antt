-- Where names stand in a list of names, and what stands at a place of two lists, one behind the other.
use Rattle.std.proofs.Common.{◌≡◌, ℕ, zero, suc, ◌+◌, ◌<◌, Bool, true, false, not, cond, ltb, List, [], ◌∷◌, ◌++◌, length, map, Option, Some, None, option_map, slice_get, position, refl, ap, ◌∙◌, arith}
use Rattle.std.specs.List.{position_or_len, find}
use Rattle.std.specs.Option.{option_and_then, option_or}
use Rattle.std.specs.Str.{bytes_eq}
use Rattle.std.proofs.lemmas.Bool.{lt-ltb}
use Rattle.std.proofs.lemmas.Bool.Decides.{nat_tests}
use Rattle.vkb_formula.specs.Names.{place_of}

above : (b d : Bool) (m : ℕ) → b ≡ d → cond b (Some (1 + m)) None ≡ option_map (λ k. k + 1) (cond d (Some m) None)
above b true m e = ap (λ c. cond c (Some (1 + m)) None) e ∙ ap Some (omega arith)
above b false m e = ap (λ c. cond c (Some (1 + m)) None) e

first_or_later : (b : Bool) (m n : ℕ) → cond (ltb (cond (not b) (1 + m) 0) (suc n)) (Some (cond (not b) (1 + m) 0)) None ≡ cond b (Some 0) (option_map (λ k. k + 1) (cond (ltb m n) (Some m) None))
first_or_later true m n = ap (λ c. cond c (Some 0) None) (lt-ltb 0 (suc n) (omega arith))
first_or_later false m n = above (ltb (1 + m) (suc n)) (ltb m n) m (grind (arith, nat_tests))

module _ {X : Type 0} (name_of : X → List ℕ) where
  -- the first thing of a name stands where its name does among the names
  pub position-names : (name : List ℕ) (things : List X) → position (λ thing. bytes_eq name (name_of thing)) things ≡ place_of name (map name_of things)
  position-names name [] = refl
  position-names name (thing ∷ more) =
      first_or_later (bytes_eq name (name_of thing)) (position_or_len (λ x. bytes_eq name (name_of x)) more) (length more)
      ∙ ap (λ p. cond (bytes_eq name (name_of thing)) (Some 0) (option_map (λ n. n + 1) p)) (position-names name more)

found_raised : (b found : Bool) (o : Option ℕ) (m : ℕ) → cond b (Some 0) (option_map (λ k. k + 1) (option_or o (cond found (Some m) None))) ≡ option_or (cond b (Some 0) (option_map (λ k. k + 1) o)) (cond found (Some (suc m)) None)
found_raised true found o m = refl
found_raised false found (Some k) m = refl
found_raised false true None m = ap Some (omega arith)
found_raised false false None m = refl

-- where a name stands once another was put last
pub place_of-push : (name last : List ℕ) (names : List (List ℕ)) → place_of name (names ++ last ∷ []) ≡ option_or (place_of name names) (cond (bytes_eq name last) (Some (length names)) None)
place_of-push name last [] = refl
place_of-push name last (first ∷ names) =
    ap (λ o. cond (bytes_eq name first) (Some 0) (option_map (λ k. k + 1) o)) (place_of-push name last names)
    ∙ found_raised (bytes_eq name first) (bytes_eq name last) (place_of name names) (length names)

within_raised : (b : Bool) (o : Option ℕ) (n i : ℕ) → ((k : ℕ) → o ≡ Some k → k < n) → cond b (Some 0) (option_map (λ k. k + 1) o) ≡ Some i → i < suc n
within_raised true o n i h e = let zero_is : 0 ≡ i = cc in omega arith
within_raised false None n i h e = absurd (cc)
within_raised false (Some k) n i h e = let raised : k + 1 ≡ i = cc in omega (arith, h k refl)

pub place_of-within : (name : List ℕ) (names : List (List ℕ)) (i : ℕ) → place_of name names ≡ Some i → i < length names
place_of-within name [] i e = absurd (cc)
place_of-within name (first ∷ names) i e =
    within_raised (bytes_eq name first) (place_of name names) (length names) i (place_of-within name names) e

pub slice_get-front : {X : Type 0} (xs ys : List X) (i : ℕ) → i < length xs → slice_get (xs ++ ys) i ≡ slice_get xs i
slice_get-front [] ys i h = absurd (omega arith)
slice_get-front (x ∷ xs) ys zero h = refl
slice_get-front (x ∷ xs) ys (suc i) h = slice_get-front xs ys i (omega arith)

pub slice_get-seam : {X : Type 0} (xs : List X) (y : X) → slice_get (xs ++ y ∷ []) (length xs) ≡ Some y
slice_get-seam [] y = refl
slice_get-seam (x ∷ xs) y = slice_get-seam xs y

found_one : {X : Type 0} (b : Bool) (x : X) (xs : List X) (o : Option ℕ) (r : Option X) → r ≡ option_and_then (slice_get xs) o → cond b (Some x) r ≡ option_and_then (slice_get (x ∷ xs)) (cond b (Some 0) (option_map (λ k. k + 1) o))
found_one true x xs o r e = refl
found_one false x xs None r e = e
found_one false x xs (Some k) r e = e ∙ ap (slice_get (x ∷ xs)) (let next : suc k ≡ k + 1 = omega arith in next)

module _ {X : Type 0} (name_of : X → List ℕ) where
  -- the first thing of a name is the one at the place where the name stands first
  pub find-names : (name : List ℕ) (things : List X) → find (λ thing. bytes_eq name (name_of thing)) things ≡ option_and_then (slice_get things) (place_of name (map name_of things))
  find-names name [] = refl
  find-names name (thing ∷ more) = found_one (bytes_eq name (name_of thing)) thing more (place_of name (map name_of more)) _ (find-names name more)
