-- The names of types in two tables, as types are read.
use Rattle.std.proofs.Common.{◌≡◌, ◌+◌, ℕ, List, [], ◌∷◌, ◌++◌, Bool, true, false, not, ◌||◌, Option, Some, None, is_some, cond, option_map, refl, sym, ap, ◌∙◌}
use Rattle.std.specs.List.{find}
use Rattle.std.specs.Option.{option_map_or, option_or}
use Rattle.std.specs.Str.{bytes_eq}
use Rattle.std.specs.Cmp.Lexicographic.{bytes_decides}
use Rattle.std.proofs.Math.Bool.{or-false, or-true}
use Rattle.std.proofs.lemmas.Bool.{true≢false}
use Rattle.std.proofs.lemmas.List.Folds.{find-append}
use Rattle.vkb_formula.specs.Names.{place_of, with_name}
use Rattle.reg_forms.specs.declared.forms.Declaration.{Declaration}
use Rattle.reg_forms.specs.Declarations.{is_enum_row}
use Rattle.reg_forms.specs.EnumTypes.{AreNamesOf}

is_some-cond : (b : Bool) (o : Option ℕ) → is_some (cond b (Some 0) (option_map (λ k. k + 1) o)) ≡ (b || is_some o)
is_some-cond true o = refl
is_some-cond false None = refl
is_some-cond false (Some k) = refl

regrouped : (a b c : Bool) → (a || (b || c)) ≡ ((a || b) || c)
regrouped true b c = refl
regrouped false b c = refl

-- a name is in a table with one more where it was there or is the new one
place_of-append : (other name : List ℕ) (names : List (List ℕ)) → is_some (place_of other (names ++ name ∷ [])) ≡ (is_some (place_of other names) || bytes_eq other name)
place_of-append other name [] = is_some-cond (bytes_eq other name) None ∙ or-false (bytes_eq other name)
place_of-append other name (first ∷ names) =
    is_some-cond (bytes_eq other first) (place_of other (names ++ name ∷ []))
    ∙ ap (λ b. bytes_eq other first || b) (place_of-append other name names)
    ∙ regrouped (bytes_eq other first) (is_some (place_of other names)) (bytes_eq other name)
    ∙ ap (λ b. b || bytes_eq other name) (sym (is_some-cond (bytes_eq other first) (place_of other names)))

held-too : (other name : List ℕ) (names : List (List ℕ)) → is_some (place_of name names) ≡ true → (same : Bool) → bytes_eq other name ≡ same → is_some (place_of other names) ≡ (is_some (place_of other names) || same)
held-too other name names held false e = sym (or-false (is_some (place_of other names)))
held-too other name names held true e =
    ap (λ n. is_some (place_of n names)) ((bytes_decides other name).0 e) ∙ held ∙ sym (or-true (is_some (place_of other names)))

with_name-at : (other name : List ℕ) (names : List (List ℕ)) (held : Bool) → is_some (place_of name names) ≡ held → is_some (place_of other (cond held names (names ++ name ∷ []))) ≡ (is_some (place_of other names) || bytes_eq other name)
with_name-at other name names true e = held-too other name names e (bytes_eq other name) refl
with_name-at other name names false e = place_of-append other name names

-- a name is in a table where it was there or was put in
place_of-with : (other name : List ℕ) (names : List (List ℕ)) → is_some (place_of other (with_name name names)) ≡ (is_some (place_of other names) || bytes_eq other name)
place_of-with other name names = with_name-at other name names (is_some (place_of name names)) refl

swapped-at : (a b : List ℕ) (s t : Bool) → bytes_eq a b ≡ s → bytes_eq b a ≡ t → s ≡ t
swapped-at a b true true e f = refl
swapped-at a b false false e f = refl
swapped-at a b true false e f = absurd (true≢false (sym ((bytes_decides b a).1 (sym ((bytes_decides a b).0 e))) ∙ f))
swapped-at a b false true e f = absurd (true≢false (sym ((bytes_decides a b).1 (sym ((bytes_decides b a).0 f))) ∙ e))

bytes_eq-swapped : (a b : List ℕ) → bytes_eq a b ≡ bytes_eq b a
bytes_eq-swapped a b = swapped-at a b (bytes_eq a b) (bytes_eq b a) refl refl

-- the first type of a name
abbrev first : List Declaration → List ℕ → Option Declaration
first rows name = find (λ row. bytes_eq row.name name) rows

-- the first type of a name, with one more type behind the others
first-append : (rows : List Declaration) (row : Declaration) (name other : List ℕ) → row.name ≡ name → first (rows ++ row ∷ []) other ≡ option_or (first rows other) (cond (bytes_eq other name) (Some row) None)
first-append rows row name other named =
    find-append (λ r. bytes_eq r.name other) rows (row ∷ [])
    ∙ ap (λ b. option_or (first rows other) (cond b (Some row) None)) (ap (λ n. bytes_eq n other) named ∙ bytes_eq-swapped name other)

-- Of two tables, one has the names whose first type is of a sort, and the other the rest. A type of the sort comes behind the others.
module _ (sort rest : Declaration → Bool) (opposite : (r : Declaration) → rest r ≡ not (sort r)) (rows : List Declaration) (row : Declaration) (name : List ℕ) (named : row.name ≡ name) (is_so : sort row ≡ true) (names others : List (List ℕ)) (of_names : (n : List ℕ) → is_some (place_of n names) ≡ option_map_or sort (first rows n) false) (of_others : (n : List ℕ) → is_some (place_of n others) ≡ option_map_or rest (first rows n) false) where
  names-at : (n : List ℕ) (found : Option Declaration) → first rows n ≡ found → is_some (place_of n names) ≡ option_map_or sort found false
  names-at n found e = of_names n ∙ ap (λ f. option_map_or sort f false) e

  others-at : (n : List ℕ) (found : Option Declaration) → first rows n ≡ found → is_some (place_of n others) ≡ option_map_or rest found false
  others-at n found e = of_others n ∙ ap (λ f. option_map_or rest f false) e

  -- the name isn't in the other table, so its first type is of the sort
  first-is_so : (n : List ℕ) (r : Declaration) → first rows n ≡ Some r → bytes_eq n name ≡ true → is_some (place_of name others) ≡ false → (b : Bool) → sort r ≡ b → b ≡ true
  first-is_so n r e same absent true s = refl
  first-is_so n r e same absent false s =
      absurd (true≢false (sym (others-at n (Some r) e ∙ opposite r ∙ ap not s) ∙ ap (λ m. is_some (place_of m others)) ((bytes_decides n name).0 same) ∙ absent))

  put-new : (n : List ℕ) (found : Option Declaration) → first rows n ≡ found → is_some (place_of name others) ≡ false → (same : Bool) → bytes_eq n name ≡ same → (is_some (place_of n names) || same) ≡ option_map_or sort (option_or found (cond same (Some row) None)) false
  put-new n None e absent true s = or-true (is_some (place_of n names)) ∙ sym is_so
  put-new n (Some r) e absent true s = or-true (is_some (place_of n names)) ∙ sym (first-is_so n r e s absent (sort r) refl)
  put-new n None e absent false s = or-false (is_some (place_of n names)) ∙ names-at n None e
  put-new n (Some r) e absent false s = or-false (is_some (place_of n names)) ∙ names-at n (Some r) e

  put-held : (n : List ℕ) (found : Option Declaration) → first rows n ≡ found → is_some (place_of name others) ≡ true → (same : Bool) → bytes_eq n name ≡ same → is_some (place_of n names) ≡ option_map_or sort (option_or found (cond same (Some row) None)) false
  put-held n (Some r) e held same s = names-at n (Some r) e
  put-held n None e held false s = names-at n None e
  put-held n None e held true s =
      absurd (true≢false (sym held ∙ ap (λ m. is_some (place_of m others)) (sym ((bytes_decides n name).0 s)) ∙ others-at n None e))

  put-at : (n : List ℕ) (held : Bool) → is_some (place_of name others) ≡ held → is_some (place_of n (cond held names (with_name name names))) ≡ option_map_or sort (option_or (first rows n) (cond (bytes_eq n name) (Some row) None)) false
  put-at n true e = put-held n (first rows n) refl e (bytes_eq n name) refl
  put-at n false e = place_of-with n name names ∙ put-new n (first rows n) refl e (bytes_eq n name) refl

  stays-at : (n : List ℕ) (found : Option Declaration) → first rows n ≡ found → (same : Bool) → is_some (place_of n others) ≡ option_map_or rest (option_or found (cond same (Some row) None)) false
  stays-at n (Some r) e same = others-at n (Some r) e
  stays-at n None e false = others-at n None e
  stays-at n None e true = others-at n None e ∙ sym (opposite row ∙ ap not is_so)

  -- the name is in the one table, unless the other has it
  put-names : (new : List (List ℕ)) → new ≡ cond (is_some (place_of name others)) names (with_name name names) → (n : List ℕ) → is_some (place_of n new) ≡ option_map_or sort (first (rows ++ row ∷ []) n) false
  put-names new made n =
      ap (λ t. is_some (place_of n t)) made ∙ put-at n (is_some (place_of name others)) refl
      ∙ ap (λ f. option_map_or sort f false) (sym (first-append rows row name n named))

  -- and the other stays
  put-others : (n : List ℕ) → is_some (place_of n others) ≡ option_map_or rest (first (rows ++ row ∷ []) n) false
  put-others n = stays-at n (first rows n) refl (bytes_eq n name) ∙ ap (λ f. option_map_or rest f false) (sym (first-append rows row name n named))

not-not : (b : Bool) → b ≡ not (not b)
not-not true = refl
not-not false = refl

abbrev is_other_row : Declaration → Bool
is_other_row row = not (is_enum_row row)

-- an enum type that is no alias comes behind the others
pub put_enum : (rows : List Declaration) (row : Declaration) (name : List ℕ) (enums others new : List (List ℕ)) → row.name ≡ name → is_enum_row row ≡ true → new ≡ cond (is_some (place_of name others)) enums (with_name name enums) → AreNamesOf rows enums others → AreNamesOf (rows ++ row ∷ []) new others
put_enum rows row name enums others new named is_so made so_far = record {
  of_enums = put-names is_enum_row is_other_row (λ r. refl) rows row name named is_so enums others so_far.of_enums so_far.of_others new made;
  of_others = put-others is_enum_row is_other_row (λ r. refl) rows row name named is_so enums others so_far.of_enums so_far.of_others;
}

-- another type comes behind the others
pub put_other : (rows : List Declaration) (row : Declaration) (name : List ℕ) (enums others new : List (List ℕ)) → row.name ≡ name → is_enum_row row ≡ false → new ≡ cond (is_some (place_of name enums)) others (with_name name others) → AreNamesOf rows enums others → AreNamesOf (rows ++ row ∷ []) enums new
put_other rows row name enums others new named not_so made so_far = record {
  of_enums = put-others is_other_row is_enum_row (λ r. not-not (is_enum_row r)) rows row name named (ap not not_so) others enums so_far.of_others so_far.of_enums;
  of_others = put-names is_other_row is_enum_row (λ r. not-not (is_enum_row r)) rows row name named (ap not not_so) others enums so_far.of_others so_far.of_enums new made;
}
