-- Where names stand in a list of names, and that std's words on a set of names say the same.
use Rattle.std.proofs.Common.{◌≡◌, ℕ, zero, suc, ◌+◌, Bool, true, false, not, cond, ltb, List, [], ◌∷◌, ◌++◌, length, map, Option, Some, None, option_map, slice_get, position, refl, sym, ap, subst, ◌∙◌, arith}
use Rattle.std.specs.List.{IsDistinct, AllByRecursion, position_or_len, list_any}
use Rattle.std.specs.Cmp.Lexicographic.{bytes_decides}
use Rattle.std.proofs.lemmas.Bool.{true≢false, lt-ltb, or_from}
use Rattle.std.proofs.lemmas.Bool.Decides.{nat_tests}
use Rattle.std.proofs.lemmas.List.{map-append, length_push, length-map}
use Rattle.std.proofs.lemmas.Map.Keys.{IsDistinct-head, IsDistinct-tail}
use Rattle.vkb_formula.specs.Names.{is_same_name, place_of, AreDifferent}

same-true : (a b : List ℕ) → is_same_name a b ≡ true → a ≡ b
same-true a b = (bytes_decides a b).0

same-itself : (a : List ℕ) → is_same_name a a ≡ true
same-itself a = (bytes_decides a a).1 refl

above-cond : (b d : Bool) (m : ℕ) → b ≡ d → cond b (Some (1 + m)) None ≡ option_map (λ k. k + 1) (cond d (Some m) None)
above-cond b true m e = ap (λ c. cond c (Some (1 + m)) None) e ∙ ap Some (omega arith)
above-cond b false m e = ap (λ c. cond c (Some (1 + m)) None) e

position-cases : (b : Bool) (m n : ℕ) → cond (ltb (cond (not b) (1 + m) 0) (suc n)) (Some (cond (not b) (1 + m) 0)) None ≡ cond b (Some 0) (option_map (λ k. k + 1) (cond (ltb m n) (Some m) None))
position-cases true m n = ap (λ c. cond c (Some 0) None) (lt-ltb 0 (suc n) (omega arith))
position-cases false m n = above-cond (ltb (1 + m) (suc n)) (ltb m n) m (grind (arith, nat_tests))

module _ {X : Type 0} (bytes : X → List ℕ) where
  -- std's `position` in the names' owners
  pub position-names : (name : List ℕ) (ks : List X) → position (λ k. is_same_name name (bytes k)) ks ≡ place_of name (map bytes ks)
  position-names name [] = refl
  position-names name (k ∷ ks) =
      position-cases (is_same_name name (bytes k)) (position_or_len (λ x. is_same_name name (bytes x)) ks) (length ks)
      ∙ ap (λ p. cond (is_same_name name (bytes k)) (Some 0) (option_map (λ n. n + 1) p)) (position-names name ks)

  absent-slice_get : (name : List ℕ) (ks : List X) (j : ℕ) → AllByRecursion (λ y. is_same_name name (bytes y) ≡ false) ks → slice_get (map bytes ks) j ≡ Some name → ⊥
  absent-slice_get name [] j h e = cc
  absent-slice_get name (k ∷ ks) zero h e =
      let same : bytes k ≡ name = cc in
      true≢false (sym (same-itself name) ∙ ap (is_same_name name) (sym same) ∙ h.0)
  absent-slice_get name (k ∷ ks) (suc j) h e = absent-slice_get name ks j h.1 e

  -- names that differ by `==` stand at one place each
  pub different-names : (ks : List X) → IsDistinct (λ a b. is_same_name (bytes a) (bytes b)) ks → AreDifferent (map bytes ks)
  different-names [] h i j name a b = absurd (let none : ◌≡◌ {A = Option (List ℕ)} None (Some name) = a in cc)
  different-names (k ∷ ks) h zero zero name a b = refl
  different-names (k ∷ ks) h zero (suc j) name a b =
      absurd (absent-slice_get (bytes k) ks j (IsDistinct-head _ k ks h) (b ∙ sym a))
  different-names (k ∷ ks) h (suc i) zero name a b =
      absurd (absent-slice_get (bytes k) ks i (IsDistinct-head _ k ks h) (a ∙ sym b))
  different-names (k ∷ ks) h (suc i) (suc j) name a b = ap suc (different-names ks (IsDistinct-tail _ k ks h) i j name a b)

-- what a name's place says of a list of names, by its first name
held-at : (name n : List ℕ) (ns : List (List ℕ)) (b : Bool) → is_same_name name n ≡ b → (o : Option ℕ) → ((k : ℕ) → o ≡ Some k → slice_get ns k ≡ Some name) → (i : ℕ) → cond b (Some 0) (option_map (λ k. k + 1) o) ≡ Some i → slice_get (n ∷ ns) i ≡ Some name
held-at name n ns true s o rest i e = let zero-is : 0 ≡ i = cc in subst (λ k. slice_get (n ∷ ns) k ≡ Some name) zero-is (ap Some (sym (same-true name n s)))
held-at name n ns false s None rest i e = absurd (cc)
held-at name n ns false s (Some k) rest i e =
    let raised : k + 1 ≡ i = cc in
    let next : suc k ≡ i = omega arith in
    subst (λ m. slice_get (n ∷ ns) m ≡ Some name) next (rest k refl)

-- a name that is found stands there
pub place_of-held : (name : List ℕ) (names : List (List ℕ)) (i : ℕ) → place_of name names ≡ Some i → slice_get names i ≡ Some name
place_of-held name [] i e = absurd (cc)
place_of-held name (n ∷ ns) i e = held-at name n ns (is_same_name name n) refl (place_of name ns) (place_of-held name ns) i e

absent-at : (name n : List ℕ) (ns : List (List ℕ)) (b : Bool) → is_same_name name n ≡ b → (o : Option ℕ) → (o ≡ None → (k : ℕ) → slice_get ns k ≡ Some name → ⊥) → cond b (Some 0) (option_map (λ k. k + 1) o) ≡ None → (i : ℕ) → slice_get (n ∷ ns) i ≡ Some name → ⊥
absent-at name n ns true s o rest e i h = cc
absent-at name n ns false s (Some k) rest e i h = cc
absent-at name n ns false s None rest e zero h =
    let same : n ≡ name = cc in
    true≢false (sym (same-itself name) ∙ ap (is_same_name name) (sym same) ∙ s)
absent-at name n ns false s None rest e (suc i) h = rest refl i h

-- a name that isn't found stands nowhere
pub place_of-absent : (name : List ℕ) (names : List (List ℕ)) → place_of name names ≡ None → (i : ℕ) → slice_get names i ≡ Some name → ⊥
place_of-absent name [] e i h = cc
place_of-absent name (n ∷ ns) e i h = absent-at name n ns (is_same_name name n) refl (place_of name ns) (place_of-absent name ns) e i h

-- a name that isn't found is another than the first, and isn't found after it
absent-parts : (b : Bool) (o : Option ℕ) → cond b (Some 0) (option_map (λ k. k + 1) o) ≡ None → (b ≡ false) × (o ≡ None)
absent-parts true o e = absurd (cc)
absent-parts false (Some k) e = absurd (cc)
absent-parts false None e = (refl, refl)

-- a new name that is put last is found there
pub place_of-last : (name : List ℕ) (names : List (List ℕ)) → place_of name names ≡ None → place_of name (names ++ name ∷ []) ≡ Some (length names)
place_of-last name [] e = ap (λ b. cond b (Some 0) None) (same-itself name)
place_of-last name (n ∷ ns) e =
    let parts = absent-parts (is_same_name name n) (place_of name ns) e in
    ap (λ b. cond b (Some 0) (option_map (λ k. k + 1) (place_of name (ns ++ name ∷ [])))) parts.0
    ∙ ap (option_map (λ k. k + 1)) (place_of-last name ns parts.1) ∙ ap Some (let next : length ns + 1 ≡ suc (length ns) = omega arith in next)

stays-at : (b : Bool) (o p : Option ℕ) → ((k : ℕ) → o ≡ Some k → p ≡ Some k) → (i : ℕ) → cond b (Some 0) (option_map (λ k. k + 1) o) ≡ Some i → cond b (Some 0) (option_map (λ k. k + 1) p) ≡ Some i
stays-at true o p h i e = e
stays-at false None p h i e = absurd (cc)
stays-at false (Some k) p h i e = ap (option_map (λ j. j + 1)) (h k refl) ∙ e

-- a name keeps its place when another is put last
pub place_of-stays : (other name : List ℕ) (names : List (List ℕ)) (i : ℕ) → place_of other names ≡ Some i → place_of other (names ++ name ∷ []) ≡ Some i
place_of-stays other name [] i e = absurd (cc)
place_of-stays other name (n ∷ ns) i e =
    stays-at (is_same_name other n) (place_of other ns) (place_of other (ns ++ name ∷ [])) (place_of-stays other name ns) i e

module _ {X : Type 0} (bytes : X → List ℕ) where
  -- std's words on a new name
  pub new-name : (k : X) (ks : List X) → place_of (bytes k) (map bytes ks) ≡ None → (list_any (λ x. is_same_name (bytes k) (bytes x)) ks ≡ false) × (position_or_len (λ x. is_same_name (bytes k) (bytes x)) ks ≡ length ks)
  new-name k [] e = (refl, refl)
  new-name k (x ∷ xs) e =
      let parts = absent-parts (is_same_name (bytes k) (bytes x)) (place_of (bytes k) (map bytes xs)) e in
      let rest = new-name k xs parts.1 in (
        or_from (is_same_name (bytes k) (bytes x)) (list_any (λ y. is_same_name (bytes k) (bytes y)) xs) parts.0 rest.0,
        ap (λ b. cond (not b) (1 + position_or_len (λ y. is_same_name (bytes k) (bytes y)) xs) 0) parts.0 ∙ (let more : 1 + position_or_len (λ y. is_same_name (bytes k) (bytes y)) xs ≡ suc (length xs) = omega (arith, rest.1) in more),
      )

  -- the names after a new one was put in
  pub put-names : (k : X) (ks new : List X) (name : List ℕ) → bytes k ≡ name → place_of name (map bytes ks) ≡ None → new ≡ cond (list_any (λ x. is_same_name (bytes k) (bytes x)) ks) ks (ks ++ k ∷ []) → map bytes new ≡ map bytes ks ++ name ∷ []
  put-names k ks new name e none h =
      let parts = new-name k ks (ap (λ n. place_of n (map bytes ks)) e ∙ none) in
      ap (map bytes) (h ∙ ap (λ b. cond b ks (ks ++ k ∷ [])) parts.0) ∙ map-append bytes ks (k ∷ []) ∙ ap (λ n. map bytes ks ++ n ∷ []) e

  pub put-place : (k : X) (ks : List X) (name : List ℕ) (place : ℕ) → bytes k ≡ name → place_of name (map bytes ks) ≡ None → place ≡ position_or_len (λ x. is_same_name (bytes k) (bytes x)) ks → place ≡ length ks
  put-place k ks name place e none h = h ∙ (new-name k ks (ap (λ n. place_of n (map bytes ks)) e ∙ none)).1

  pub put-count : (k : X) (ks new : List X) (name : List ℕ) → bytes k ≡ name → place_of name (map bytes ks) ≡ None → new ≡ cond (list_any (λ x. is_same_name (bytes k) (bytes x)) ks) ks (ks ++ k ∷ []) → length new ≡ length ks + 1
  put-count k ks new name e none h =
      let parts = new-name k ks (ap (λ n. place_of n (map bytes ks)) e ∙ none) in
      ap length (h ∙ ap (λ b. cond b ks (ks ++ k ∷ [])) parts.0) ∙ length_push ks k

  pub put-found : (ks new : List X) (name : List ℕ) (place : ℕ) → place_of name (map bytes ks) ≡ None → map bytes new ≡ map bytes ks ++ name ∷ [] → place ≡ length ks → place_of name (map bytes new) ≡ Some place
  put-found ks new name place none h e =
      ap (place_of name) h ∙ place_of-last name (map bytes ks) none ∙ ap Some (length-map ks bytes ∙ sym e)

pub ruleset place_facts = (place_of-held, place_of-absent, place_of-last)
