-- The first of each name among things, and where it stands.
use Rattle.std.proofs.Common.{◌≡◌, ℕ, zero, suc, ◌+◌, Bool, true, false, not, ◌||◌, cond, eqb, List, [], ◌∷◌, ◌++◌, length, map, take, Option, Some, None, option_map, slice_get, inl, inr, refl, sym, ap, ◌∙◌, arith}
use Rattle.std.specs.Option.{option_and_then, option_map_or}
use Rattle.std.specs.Str.{bytes_eq}
use Rattle.std.specs.Cmp.Lexicographic.{bytes_decides}
use Rattle.std.proofs.lemmas.Bool.{cases_Bool, eq-eqb, ne_eqb, or_from, or_parts}
use Rattle.std.proofs.Math.Dec.{eqb-zero-suc}
use Rattle.std.proofs.lemmas.Bool.Decides.{nat_tests}
use Rattle.vkb_formula.specs.Names.{AreDifferent, place_of}
use Rattle.reg_tables.specs.Lists.{firsts, firsts_behind, is_among}
use Rattle.reg_tables.specs.Tables.{first_named}
use Rattle.reg_rows.proofs.PlaceLemmas.{find-names}

same_name : (a b : List ℕ) → bytes_eq a b ≡ true → a ≡ b
same_name a b e = (bytes_decides a b).0 e

own_name : (a : List ℕ) → bytes_eq a a ≡ true
own_name a = (bytes_decides a a).1 refl

-- a name that isn't among others is none that is
another_name : (seen : List (List ℕ)) (a b : List ℕ) → is_among seen a ≡ false → is_among seen b ≡ true → bytes_eq a b ≡ false
another_name seen a b f t =
    elim (cases_Bool (bytes_eq a b)) [
      | inl same ↦ absurd (let both : true ≡ false = sym t ∙ ap (is_among seen) (sym (same_name a b same)) ∙ f in cc)
      | inr differs ↦ differs
    ]

-- the place behind another one's
next_is : (o : Option ℕ) (j : ℕ) → option_map_or (λ at. eqb at (suc j)) (option_map (λ k. k + 1) o) false ≡ option_map_or (λ at. eqb at j) o false
next_is None j = refl
next_is (Some k) j = grind (arith, nat_tests)

seen_twice : (seen same more : Bool) → (seen ≡ false → same ≡ false) → (seen || more) ≡ (seen || (same || more))
seen_twice true same more other = refl
seen_twice false same more other = rw (other refl) refl

or_between : (same seen more : Bool) → ((same || seen) || more) ≡ (seen || (same || more))
or_between true true more = refl
or_between true false more = refl
or_between false seen more = refl

module _ {X : Type 0} (name_of : X → List ℕ) where
  -- A thing at a place is the first of its name where its name stands first there.
  pub first-at : (xs : List X) (k : ℕ) (x : X) → slice_get xs k ≡ Some x → option_map_or (λ at. eqb at k) (place_of (name_of x) (map name_of xs)) false ≡ not (is_among (map name_of (take k xs)) (name_of x))
  first-at [] k x is = absurd (cc)
  first-at (y ∷ ys) zero x is =
      let same : y ≡ x = cc in
      rw (same, own_name (name_of x)) refl
  first-at (y ∷ ys) (suc j) x is =
      elim (cases_Bool (bytes_eq (name_of x) (name_of y))) [
        | inl same ↦ rw (same, eqb-zero-suc j) refl
        | inr differs ↦ rw (differs, next_is (place_of (name_of x) (map name_of ys)) j) (first-at ys j x is)
      ]

  -- the firsts behind one that was seen or not
  behind_seen : (seen : List (List ℕ)) (y : X) (ys : List X) → is_among seen (name_of y) ≡ true → firsts_behind name_of seen (y ∷ ys) ≡ firsts_behind name_of seen ys
  behind_seen seen y ys is = rw is refl

  behind_new : (seen : List (List ℕ)) (y : X) (ys : List X) → is_among seen (name_of y) ≡ false → firsts_behind name_of seen (y ∷ ys) ≡ y ∷ firsts_behind name_of (name_of y ∷ seen) ys
  behind_new seen y ys is = rw is refl

  -- one more thing is put last
  behind-push : (seen : List (List ℕ)) (xs : List X) (x : X) → firsts_behind name_of seen (xs ++ x ∷ []) ≡ firsts_behind name_of seen xs ++ cond (is_among seen (name_of x) || is_among (map name_of xs) (name_of x)) [] (x ∷ [])
  behind-push seen [] x = elim (cases_Bool (is_among seen (name_of x))) [ inl is ↦ rw is refl | inr is ↦ rw is refl ]
  behind-push seen (y ∷ ys) x =
      elim (cases_Bool (is_among seen (name_of y))) [
        | inl is ↦
            behind_seen seen y (ys ++ x ∷ []) is ∙ behind-push seen ys x
            ∙ ap (λ b. firsts_behind name_of seen ys ++ cond b [] (x ∷ [])) (seen_twice (is_among seen (name_of x)) (bytes_eq (name_of x) (name_of y)) (is_among (map name_of ys) (name_of x)) (λ new. another_name seen (name_of x) (name_of y) new is))
            ∙ ap (λ front. front ++ cond (is_among seen (name_of x) || is_among (map name_of (y ∷ ys)) (name_of x)) [] (x ∷ [])) (sym (behind_seen seen y ys is))
        | inr is ↦
            behind_new seen y (ys ++ x ∷ []) is ∙ ap (λ more. y ∷ more) (behind-push (name_of y ∷ seen) ys x)
            ∙ ap (λ b. y ∷ (firsts_behind name_of (name_of y ∷ seen) ys ++ cond b [] (x ∷ []))) (or_between (bytes_eq (name_of x) (name_of y)) (is_among seen (name_of x)) (is_among (map name_of ys) (name_of x)))
            ∙ ap (λ front. front ++ cond (is_among seen (name_of x) || is_among (map name_of (y ∷ ys)) (name_of x)) [] (x ∷ [])) (sym (behind_new seen y ys is))
      ]

  pub firsts-push : (xs : List X) (x : X) → firsts name_of (xs ++ x ∷ []) ≡ firsts name_of xs ++ cond (is_among (map name_of xs) (name_of x)) [] (x ∷ [])
  firsts-push xs x = behind-push [] xs x

  -- a thing that is the first of its name stands behind all firsts that stand before it
  behind-there : (seen : List (List ℕ)) (xs : List X) (k : ℕ) (x : X) → slice_get xs k ≡ Some x → is_among seen (name_of x) ≡ false → is_among (map name_of (take k xs)) (name_of x) ≡ false → slice_get (firsts_behind name_of seen xs) (length (firsts_behind name_of seen (take k xs))) ≡ Some x
  behind-there seen [] k x is new none = absurd (cc)
  behind-there seen (y ∷ ys) zero x is new none =
      let same : y ≡ x = cc in
      rw (same, new) refl
  behind-there seen (y ∷ ys) (suc j) x is new none =
      let parts = or_parts (bytes_eq (name_of x) (name_of y)) (is_among (map name_of (take j ys)) (name_of x)) none in
      elim (cases_Bool (is_among seen (name_of y))) [
        | inl known ↦ rw known (behind-there seen ys j x is new parts.1)
        | inr unknown ↦ rw unknown (behind-there (name_of y ∷ seen) ys j x is (or_from (bytes_eq (name_of x) (name_of y)) (is_among seen (name_of x)) parts.0 new) parts.1)
      ]

  pub firsts-there : (xs : List X) (k : ℕ) (x : X) → slice_get xs k ≡ Some x → is_among (map name_of (take k xs)) (name_of x) ≡ false → slice_get (firsts name_of xs) (length (firsts name_of (take k xs))) ≡ Some x
  firsts-there xs k x is none = behind-there [] xs k x is refl none

  -- the first of a name is so among the firsts
  behind-find : (name : List ℕ) (seen : List (List ℕ)) (xs : List X) → is_among seen name ≡ false → first_named name_of (firsts_behind name_of seen xs) name ≡ first_named name_of xs name
  behind-find name seen [] new = refl
  behind-find name seen (y ∷ ys) new =
      elim (cases_Bool (is_among seen (name_of y))) [
        | inl known ↦ rw (known, another_name seen name (name_of y) new known) (behind-find name seen ys new)
        | inr unknown ↦
            elim (cases_Bool (bytes_eq name (name_of y))) [
              | inl same ↦ rw (unknown, same) refl
              | inr differs ↦ rw (unknown, differs) (behind-find name (name_of y ∷ seen) ys (or_from (bytes_eq name (name_of y)) (is_among seen name) differs new))
            ]
      ]

  pub firsts-find : (name : List ℕ) (xs : List X) → first_named name_of xs name ≡ option_and_then (slice_get (firsts name_of xs)) (place_of name (map name_of (firsts name_of xs)))
  firsts-find name xs = sym (behind-find name [] xs refl) ∙ find-names name_of name (firsts name_of xs)

held_raised : (b : Bool) (o : Option ℕ) (p : ℕ) → cond b (Some 0) (option_map (λ k. k + 1) o) ≡ Some (suc p) → o ≡ Some p
held_raised true o p e = absurd (let never : 0 ≡ suc p = cc in omega arith)
held_raised false None p e = absurd (cc)
held_raised false (Some k) p e = let raised : k + 1 ≡ suc p = cc in ap Some (omega arith)

held_here : (b : Bool) (o : Option ℕ) → cond b (Some 0) (option_map (λ k. k + 1) o) ≡ Some zero → b ≡ true
held_here true o e = refl
held_here false None e = absurd (cc)
held_here false (Some k) e = absurd (let raised : k + 1 ≡ 0 = cc in omega arith)

-- what stands at the place of a name
pub held : (name : List ℕ) (names : List (List ℕ)) (p : ℕ) → place_of name names ≡ Some p → slice_get names p ≡ Some name
held name [] p e = absurd (cc)
held name (first ∷ names) zero e = ap Some (sym (same_name name first (held_here (bytes_eq name first) (place_of name names) e)))
held name (first ∷ names) (suc p) e = held name names p (held_raised (bytes_eq name first) (place_of name names) p e)

-- a name that stands at a place has a first place
placed : (name : List ℕ) (names : List (List ℕ)) (p : ℕ) → slice_get names p ≡ Some name → (q : ℕ) × (place_of name names ≡ Some q)
placed name [] p e = absurd (cc)
placed name (first ∷ names) zero e =
    let same : first ≡ name = cc in
    (0, rw (same, own_name name) refl)
placed name (first ∷ names) (suc p) e =
    elim (cases_Bool (bytes_eq name first)) [
      | inl same ↦ (0, rw same refl)
      | inr differs ↦ let more = placed name names p e in (more.0 + 1, rw (differs, more.1) refl)
    ]

pub different-placed : (names : List (List ℕ)) → AreDifferent names → (name : List ℕ) (p : ℕ) → slice_get names p ≡ Some name → place_of name names ≡ Some p
different-placed names differ name p e =
    let there = placed name names p e in
    there.1 ∙ ap Some (differ there.0 p name (held name names there.0 there.1) e)

elsewhere : (names : List (List ℕ)) (n name : List ℕ) (p : ℕ) → place_of n names ≡ Some p → bytes_eq n name ≡ false → (o : Option ℕ) → place_of name names ≡ o → option_map_or (λ at. eqb at p) o false ≡ false
elsewhere names n name p e differs None is = refl
elsewhere names n name p e differs (Some q) is =
    ne_eqb q p (λ same.
    let both : Some name ≡ Some n = sym (held name names q is) ∙ ap (slice_get names) same ∙ held n names p e in
    let one : n ≡ name = cc in
    let never : true ≡ false = sym ((bytes_decides n name).1 one) ∙ differs in
    (cc))

-- other names don't stand first at the place of a name
pub place-is : (names : List (List ℕ)) (n : List ℕ) (p : ℕ) → place_of n names ≡ Some p → (name : List ℕ) → option_map_or (λ at. eqb at p) (place_of name names) false ≡ bytes_eq n name
place-is names n p e name =
    elim (cases_Bool (bytes_eq n name)) [
      | inl same ↦
          ap (λ o. option_map_or (λ at. eqb at p) o false) (ap (λ m. place_of m names) (sym (same_name n name same)) ∙ e) ∙ eq-eqb p p refl ∙ sym same
      | inr differs ↦ elsewhere names n name p e differs (place_of name names) refl ∙ sym differs
    ]
