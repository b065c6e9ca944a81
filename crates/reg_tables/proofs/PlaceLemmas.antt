-- Where names stand in a list of names, by std's `position` and by a table of them.
use Rattle.std.proofs.Common.{◌≡◌, ◌≢◌, ℕ, zero, suc, ◌+◌, ◌<◌, Bool, true, false, not, cond, ltb, List, [], ◌∷◌, ◌++◌, length, map, Option, Some, None, is_some, option_map, slice_get, position, get_or, refl, sym, ap, ◌∙◌, arith}
use Rattle.std.specs.List.{position_or_len, find}
use Rattle.std.specs.Option.{option_and_then, option_or}
use Rattle.std.specs.Str.{bytes_eq}
use Rattle.std.specs.Cmp.Lexicographic.{bytes_decides}
use Rattle.std.proofs.lemmas.Bool.{lt-ltb}
use Rattle.std.proofs.lemmas.Bool.Decides.{nat_tests}
use Rattle.std.proofs.lemmas.List.{length_push}
use Rattle.std.proofs.lemmas.Option.{slice_get-get_or}
use Rattle.vkb_formula.specs.Names.{place_of, with_name}
use Rattle.reg_tables.specs.Places.{AreFirstPlaces, place_in}
use Rattle.reg_tables.specs.Tables.{first_named}

above : (b d : Bool) (m : ℕ) → b ≡ d → cond b (Some (1 + m)) None ≡ option_map (λ k. k + 1) (cond d (Some m) None)
above b true m e = ap (λ c. cond c (Some (1 + m)) None) e ∙ ap Some (omega arith)
above b false m e = ap (λ c. cond c (Some (1 + m)) None) e

first_or_later : (b : Bool) (m n : ℕ) → cond (ltb (cond (not b) (1 + m) 0) (suc n)) (Some (cond (not b) (1 + m) 0)) None ≡ cond b (Some 0) (option_map (λ k. k + 1) (cond (ltb m n) (Some m) None))
first_or_later true m n = ap (λ c. cond c (Some 0) None) (lt-ltb 0 (suc n) (omega arith))
first_or_later false m n = above (ltb (1 + m) (suc n)) (ltb m n) m (grind (arith, nat_tests))

module _ {X : Type 0} (name_of : X → List ℕ) where
  -- the first thing of a name stands where its name does among the names
  pub position-names : (name : List ℕ) (things : List X) → position (λ thing. bytes_eq name (name_of thing)) things ≡ place_of name (map name_of things)
  position-names name [] = refl
  position-names name (thing ∷ more) =
      first_or_later (bytes_eq name (name_of thing)) (position_or_len (λ x. bytes_eq name (name_of x)) more) (length more)
      ∙ ap (λ p. cond (bytes_eq name (name_of thing)) (Some 0) (option_map (λ n. n + 1) p)) (position-names name more)

map-itself : {X : Type 0} (xs : List X) → map (λ x. x) xs ≡ xs
map-itself [] = refl
map-itself (x ∷ xs) = ap (λ more. x ∷ more) (map-itself xs)

pub position-place_of : (name : List ℕ) (names : List (List ℕ)) → position (bytes_eq name) names ≡ place_of name names
position-place_of name names = position-names (λ x. x) name names ∙ ap (place_of name) (map-itself names)

found_raised : (b found : Bool) (o : Option ℕ) (m : ℕ) → cond b (Some 0) (option_map (λ k. k + 1) (option_or o (cond found (Some m) None))) ≡ option_or (cond b (Some 0) (option_map (λ k. k + 1) o)) (cond found (Some (suc m)) None)
found_raised true found o m = refl
found_raised false found (Some k) m = refl
found_raised false true None m = ap Some (omega arith)
found_raised false false None m = refl

-- where a name stands once another was put last
pub place_of-push : (name last : List ℕ) (names : List (List ℕ)) → place_of name (names ++ last ∷ []) ≡ option_or (place_of name names) (cond (bytes_eq name last) (Some (length names)) None)
place_of-push name last [] = refl
place_of-push name last (first ∷ names) =
    ap (λ o. cond (bytes_eq name first) (Some 0) (option_map (λ k. k + 1) o)) (place_of-push name last names)
    ∙ found_raised (bytes_eq name first) (bytes_eq name last) (place_of name names) (length names)

within_raised : (b : Bool) (o : Option ℕ) (n i : ℕ) → ((k : ℕ) → o ≡ Some k → k < n) → cond b (Some 0) (option_map (λ k. k + 1) o) ≡ Some i → i < suc n
within_raised true o n i h e = let zero_is : 0 ≡ i = cc in omega arith
within_raised false None n i h e = absurd (cc)
within_raised false (Some k) n i h e = let raised : k + 1 ≡ i = cc in omega (arith, h k refl)

pub place_of-within : (name : List ℕ) (names : List (List ℕ)) (i : ℕ) → place_of name names ≡ Some i → i < length names
place_of-within name [] i e = absurd (cc)
place_of-within name (first ∷ names) i e =
    within_raised (bytes_eq name first) (place_of name names) (length names) i (place_of-within name names) e

pub slice_get-front : {X : Type 0} (xs ys : List X) (i : ℕ) → i < length xs → slice_get (xs ++ ys) i ≡ slice_get xs i
slice_get-front [] ys i h = absurd (omega arith)
slice_get-front (x ∷ xs) ys zero h = refl
slice_get-front (x ∷ xs) ys (suc i) h = slice_get-front xs ys i (omega arith)

pub slice_get-seam : {X : Type 0} (xs : List X) (y : X) → slice_get (xs ++ y ∷ []) (length xs) ≡ Some y
slice_get-seam [] y = refl
slice_get-seam (x ∷ xs) y = slice_get-seam xs y

or_itself : {X : Type 0} (o : Option X) → option_or o None ≡ o
or_itself None = refl
or_itself (Some x) = refl

is_there : (o p : Option ℕ) (v : ℕ) → o ≡ Some v → option_or o p ≡ o
is_there None p v e = absurd (cc)
is_there (Some k) p v e = refl

-- what a table finds once a new name was put last, by what it found before
found_new : (places : List ℕ) (v : ℕ) (o found : Option ℕ) (same : Bool) → ((i : ℕ) → o ≡ Some i → i < length places) → option_and_then (slice_get places) o ≡ found → option_and_then (slice_get (places ++ v ∷ [])) (option_or o (cond same (Some (length places)) None)) ≡ option_or found (cond same (Some v) None)
found_new places v None found true within e = slice_get-seam places v ∙ ap (λ f. option_or f (Some v)) e
found_new places v None found false within e = ap (λ f. option_or f None) e
found_new places v (Some i) found same within e =
    let small = within i refl in
    let there = slice_get-get_or places i 0 small in
    slice_get-front places (v ∷ []) i small ∙ e ∙ sym (is_there found (cond same (Some v) None) (get_or places i 0) (sym e ∙ there))

module _ (table : List (List ℕ)) (places : List ℕ) (names : List (List ℕ)) (before : AreFirstPlaces table places names) (last : List ℕ) where
  finds_place : (name : List ℕ) → place_in table places name ≡ place_of name names
  finds_place name = before.finds name ∙ position-place_of name names

  within_places : (name : List ℕ) (i : ℕ) → place_of name table ≡ Some i → i < length places
  within_places name i e = omega (arith, place_of-within name table i e, before.each_has_one)

  -- a new name that is put last
  put_new : (v : ℕ) → length names ≡ v → AreFirstPlaces (table ++ last ∷ []) (places ++ v ∷ []) (names ++ last ∷ [])
  put_new v e = record {
    each_has_one = length_push places v ∙ ap (λ n. n + 1) before.each_has_one ∙ sym (length_push table last);
    finds = λ name.
        ap (option_and_then (slice_get (places ++ v ∷ []))) (place_of-push name last table ∙ ap (λ n. option_or (place_of name table) (cond (bytes_eq name last) (Some n) None)) (sym before.each_has_one))
        ∙ found_new places v (place_of name table) (place_of name names) (bytes_eq name last) (within_places name) (finds_place name)
        ∙ ap (λ n. option_or (place_of name names) (cond (bytes_eq name last) (Some n) None)) (sym e)
        ∙ sym (place_of-push name last names) ∙ sym (position-place_of name (names ++ last ∷ []));
  }

  -- a name that is there already
  known_found : (name : List ℕ) (same : Bool) → bytes_eq name last ≡ same → (k : ℕ) → place_of last table ≡ Some k → place_of name names ≡ option_or (place_of name names) (cond same (Some (length names)) None)
  known_found name false s k e = sym (or_itself (place_of name names))
  known_found name true s k e =
      let one : place_of name table ≡ Some k = ap (λ n. place_of n table) ((bytes_decides name last).0 s) ∙ e in
      let there = slice_get-get_or places k 0 (within_places name k one) in
      sym (is_there (place_of name names) (Some (length names)) (get_or places k 0) (sym (finds_place name) ∙ ap (option_and_then (slice_get places)) one ∙ there))

  put_known : (k : ℕ) → place_of last table ≡ Some k → AreFirstPlaces table places (names ++ last ∷ [])
  put_known k e = record {
    each_has_one = before.each_has_one;
    finds = λ name.
        finds_place name ∙ known_found name (bytes_eq name last) refl k e
        ∙ sym (place_of-push name last names) ∙ sym (position-place_of name (names ++ last ∷ []));
  }

  at_end : (o : Option ℕ) → place_of last table ≡ o → (table' : List (List ℕ)) → table' ≡ cond (is_some o) table (table ++ last ∷ []) → (i : ℕ) → place_of last table' ≡ Some i → i ≡ length table → table' ≡ table ++ last ∷ []
  at_end None known table' e i f h = e
  at_end (Some k) known table' e i f h =
      let same : Some k ≡ Some i = sym known ∙ sym (ap (place_of last) e) ∙ f in
      let one : k ≡ i = cc in
      absurd (omega (arith, place_of-within last table k known))

  inside : (o : Option ℕ) → place_of last table ≡ o → (table' : List (List ℕ)) → table' ≡ cond (is_some o) table (table ++ last ∷ []) → (i : ℕ) → place_of last table' ≡ Some i → i ≢ length table → (k : ℕ) × (place_of last table ≡ Some k) × (table' ≡ table)
  inside (Some k) known table' e i f h = (k, known, e)
  inside None known table' e i f h =
      let new : place_of last (table ++ last ∷ []) ≡ Some (length table) =
      place_of-push last last table ∙ ap (λ o. option_or o (cond (bytes_eq last last) (Some (length table)) None)) known ∙ ap (λ b. cond b (Some (length table)) None) ((bytes_decides last last).1 refl) in
      let same : Some i ≡ Some (length table) = sym f ∙ ap (place_of last) e ∙ new in
      let one : i ≡ length table = cc in
      absurd (h one)

  -- a name was put into the table, behind all others or where it stood before
  pub put-behind : (table' : List (List ℕ)) (places' : List ℕ) (v i : ℕ) → length names ≡ v → table' ≡ with_name last table → place_of last table' ≡ Some i → i ≡ length table → places' ≡ places ++ v ∷ [] → AreFirstPlaces table' places' (names ++ last ∷ [])
  put-behind table' places' v i e t f h p =
      rw (at_end (place_of last table) refl table' t i f h, p) (put_new v e)

  pub put-again : (table' : List (List ℕ)) (i : ℕ) → table' ≡ with_name last table → place_of last table' ≡ Some i → i ≢ length table → AreFirstPlaces table' places (names ++ last ∷ [])
  put-again table' i t f h = let known = inside (place_of last table) refl table' t i f h in rw known.2 (put_known known.0 known.1)

found_one : {X : Type 0} (b : Bool) (x : X) (xs : List X) (o : Option ℕ) (r : Option X) → r ≡ option_and_then (slice_get xs) o → cond b (Some x) r ≡ option_and_then (slice_get (x ∷ xs)) (cond b (Some 0) (option_map (λ k. k + 1) o))
found_one true x xs o r e = refl
found_one false x xs None r e = e
found_one false x xs (Some k) r e = e ∙ ap (slice_get (x ∷ xs)) (let next : suc k ≡ k + 1 = omega arith in next)

module _ {X : Type 0} (name_of : X → List ℕ) where
  -- the first thing of a name is the one at the place where the name stands first
  pub find-names : (name : List ℕ) (things : List X) → find (λ thing. bytes_eq name (name_of thing)) things ≡ option_and_then (slice_get things) (place_of name (map name_of things))
  find-names name [] = refl
  find-names name (thing ∷ more) = found_one (bytes_eq name (name_of thing)) thing more (place_of name (map name_of more)) _ (find-names name more)

  module _ (things : List X) (table : List (List ℕ)) (places : List ℕ) (are : AreFirstPlaces table places (map name_of things)) where
    -- what a table of the names of things finds
    pub table-position : (name : List ℕ) → place_in table places name ≡ position (λ thing. bytes_eq name (name_of thing)) things
    table-position name = are.finds name ∙ position-place_of name (map name_of things) ∙ sym (position-names name_of name things)

    pub table-find : (name : List ℕ) → option_and_then (slice_get things) (place_in table places name) ≡ first_named name_of things name
    table-find name =
        ap (option_and_then (slice_get things)) (are.finds name ∙ position-place_of name (map name_of things)) ∙ sym (find-names name things)
