-- Which names a table has after one was put in.
use Rattle.std.proofs.Common.{inl, inr, ◌≡◌, ◌∙◌, refl, ap, ℕ, ◌+◌, Bool, true, false, ◌||◌, cond, List, [], ◌∷◌, ◌++◌, Option, Some, None, option_map, is_some}
use Rattle.std.specs.Str.{bytes_eq}
use Rattle.std.specs.Cmp.Lexicographic.{bytes_decides}
use Rattle.std.proofs.Math.Bool.{or-false}
use Rattle.std.proofs.lemmas.Bool.{cases_Bool}
use Rattle.std.proofs.lemmas.List.Folds.{list_any-append}
use Rattle.vkb_formula.specs.Names.{place_of, with_name}
use Rattle.doc_tree.specs.Flat.{is_among}

first-or-later : (first : Bool) (later : Option ℕ) → is_some (cond first (Some 0) (option_map (λ place. place + 1) later)) ≡ (first || is_some later)
first-or-later true later = refl
first-or-later false None = refl
first-or-later false (Some place) = refl

-- a name has a place in a table exactly where it is among its names
pub is_some-place_of : (name : List ℕ) (names : List (List ℕ)) → is_some (place_of name names) ≡ is_among names name
is_some-place_of name [] = refl
is_some-place_of name (first ∷ names) =
    first-or-later (bytes_eq name first) (place_of name names) ∙ ap (λ later. bytes_eq name first || later) (is_some-place_of name names)

-- a name that is among a table's changes nothing
with_name-held : (name : List ℕ) (names : List (List ℕ)) → is_among names name ≡ true → with_name name names ≡ names
with_name-held name names h = ap (λ b. cond b names (names ++ name ∷ [])) (is_some-place_of name names ∙ h)

-- a name that isn't among a table's is put last
with_name-new : (name : List ℕ) (names : List (List ℕ)) → is_among names name ≡ false → with_name name names ≡ names ++ name ∷ []
with_name-new name names h = ap (λ b. cond b names (names ++ name ∷ [])) (is_some-place_of name names ∙ h)

is_among-last : (names : List (List ℕ)) (name other : List ℕ) → is_among (names ++ name ∷ []) other ≡ (is_among names other || bytes_eq other name)
is_among-last names name other =
    list_any-append (bytes_eq other) names (name ∷ []) ∙ ap (λ b. is_among names other || b) (or-false (bytes_eq other name))

-- a test that holds of a name which is the other adds nothing to what holds of the other
or-held : (held same : Bool) → (same ≡ true → held ≡ true) → held ≡ (held || same)
or-held true same h = refl
or-held false true h = h refl
or-held false false h = refl

-- what is among a table after a name was put in: what was before, and that name
pub is_among-with_name : (name : List ℕ) (names : List (List ℕ)) (other : List ℕ) → is_among (with_name name names) other ≡ (is_among names other || bytes_eq other name)
is_among-with_name name names other =
    elim (cases_Bool (is_among names name)) [
      | inl held ↦
          ap (λ table. is_among table other) (with_name-held name names held)
          ∙ or-held (is_among names other) (bytes_eq other name) (λ same. ap (is_among names) ((bytes_decides other name).0 same) ∙ held)
      | inr new ↦ ap (λ table. is_among table other) (with_name-new name names new) ∙ is_among-last names name other
    ]
