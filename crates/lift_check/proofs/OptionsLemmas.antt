-- Which names are options, and what each name is.
use Rattle.std.proofs.Common.{inl, inr, ◌≡◌, ◌∙◌, refl, sym, ap, subst, ℕ, zero, suc, ◌+◌, Bool, true, false, not, ◌&&◌, ◌||◌, cond, List, [], ◌∷◌, ◌++◌, length, take, filter, All, Option, Some, None, option_map, is_some, slice_get, arith}
use Rattle.std.specs.Str.{bytes_eq}
use Rattle.std.specs.Cmp.Lexicographic.{bytes_decides}
use Rattle.std.proofs.lemmas.Bool.{cases_Bool, false≢true}
use Rattle.std.proofs.lemmas.List.{append-nil, take_more}
use Rattle.std.proofs.lemmas.List.Elements.{All-cons, All-nil, filter-append, filter_agree}
use Rattle.std.proofs.lemmas.List.Folds.{flat_map-map}
use Rattle.std.proofs.lemmas.Option.{get_or_from_slice_get, slice_get_within}
use Rattle.std.proofs.lemmas.Slice.Zip.{all_zipped_more}
use Rattle.vkb_formula.specs.Names.{AreDifferent, place_of}
use Rattle.doc_tree.specs.declared.Document.{Document}
use Rattle.doc_tree.specs.Flat.{is_among}
use Rattle.doc_tree.specs.Loaded.{IsLoaded, flat_line, flat_of, rounds_of}
use Rattle.doc_tree.specs.Names.{each_once, names_in}
use Rattle.doc_build.specs.Choices.{free_names}
use Rattle.lift_check.specs.declared.options.Setting.{Setting}
use Rattle.lift_check.specs.declared.options.Setting.TheVariants.{Fixed, Free, Unset}
use Rattle.lift_check.specs.Options.{AreSettings, IsBelow, IsSetting, free_among}
use Rattle.lift_check.proofs.SettingLemmas.{is_among-absent, is_among-held}

-- ---- tables

is_same : (a b : List ℕ) → bytes_eq a b ≡ true → a ≡ b
is_same a b = (bytes_decides a b).0

first-or-later : (first : Bool) (later : Option ℕ) → is_some (cond first (Some 0) (option_map (λ place. place + 1) later)) ≡ (first || is_some later)
first-or-later true later = refl
first-or-later false None = refl
first-or-later false (Some place) = refl

-- a name has a place in a table exactly where it is among its names
pub is_some-place_of : (name : List ℕ) (names : List (List ℕ)) → is_some (place_of name names) ≡ is_among names name
is_some-place_of name [] = refl
is_some-place_of name (first ∷ names) =
    first-or-later (bytes_eq name first) (place_of name names) ∙ ap (λ later. bytes_eq name first || later) (is_some-place_of name names)

-- ---- names that differ

-- no name stands behind itself
abbrev AreOnce : List (List ℕ) → Type 0
AreOnce [] = Unit {0}
AreOnce (name ∷ names) = (is_among names name ≡ false) × AreOnce names

AreOnce-different : (names : List (List ℕ)) → AreDifferent names → AreOnce names
AreOnce-different [] different = tt
AreOnce-different (name ∷ names) different = (
  is_among-absent names name (λ place at. let same = different 0 (suc place) name refl at in absurd (omega arith)),
  AreOnce-different names (λ i j other at_i at_j. let same = different (suc i) (suc j) other at_i at_j in omega arith),
)

-- one more name, that passes or doesn't
one_passes : (same later passes : Bool) → (same ≡ true → passes ≡ true) → (same || (later && passes)) ≡ ((same || later) && passes)
one_passes true later passes h = sym (h refl)
one_passes false later passes h = refl

one_fails : (same later passes : Bool) → (same ≡ true → passes ≡ false) → (later && passes) ≡ ((same || later) && passes)
one_fails true true passes h = h refl ∙ sym (h refl)
one_fails true false passes h = sym (h refl)
one_fails false later passes h = refl

-- a name is among those that pass where it is among all and passes
is_among-filter : (test : List ℕ → Bool) (names : List (List ℕ)) (name : List ℕ) → is_among (filter test names) name ≡ (is_among names name && test name)
is_among-filter test [] name = refl
is_among-filter test (first ∷ names) name =
    let rest = is_among-filter test names name in
    let as_first : bytes_eq name first ≡ true → test name ≡ test first = λ same. ap test (is_same name first same) in
    elim (cases_Bool (test first)) [
      | inl passes ↦ rw passes (ap (λ b. bytes_eq name first || b) rest ∙ one_passes (bytes_eq name first) (is_among names name) (test name) (λ same. as_first same ∙ passes))
      | inr fails ↦ rw fails (rest ∙ one_fails (bytes_eq name first) (is_among names name) (test name) (λ same. as_first same ∙ fails))
    ]

AreOnce-filter : (test : List ℕ → Bool) (names : List (List ℕ)) → AreOnce names → AreOnce (filter test names)
AreOnce-filter test [] once = tt
AreOnce-filter test (name ∷ names) once =
    let rest = AreOnce-filter test names once.1 in
    let new : is_among (filter test names) name ≡ false = is_among-filter test names name ∙ ap (λ b. b && test name) once.0 in
    elim (cases_Bool (test name)) [ inl passes ↦ rw passes (new, rest) | inr fails ↦ rw fails rest ]

-- the first name stands at no later place
never_later : (name : List ℕ) (names : List (List ℕ)) (place : ℕ) (other : List ℕ) → is_among names name ≡ false → Some name ≡ Some other → slice_get names place ≡ Some other → ⊥
never_later name names place other new first later =
    false≢true (sym new ∙ is_among-held names name place (later ∙ sym first))

AreDifferent-once : (names : List (List ℕ)) → AreOnce names → AreDifferent names
AreDifferent-once [] once i j name at_i at_j = cc
AreDifferent-once (first ∷ names) once zero zero name at_i at_j = refl
AreDifferent-once (first ∷ names) once zero (suc j) name at_i at_j = absurd (never_later first names j name once.0 at_i at_j)
AreDifferent-once (first ∷ names) once (suc i) zero name at_i at_j = absurd (never_later first names i name once.0 at_j at_i)
AreDifferent-once (first ∷ names) once (suc i) (suc j) name at_i at_j = ap (λ n. suc n) (AreDifferent-once names once.1 i j name at_i at_j)

-- the options differ where all names do
pub options-differ : (fixed names : List (List ℕ)) → AreDifferent names → AreDifferent (free_among fixed names)
options-differ fixed names different =
    AreDifferent-once (free_among fixed names) (AreOnce-filter (λ name. not (is_among fixed name)) names (AreOnce-different names different))

-- ---- settings, one after another

-- one name more, at its place
pub next-name : (names : List (List ℕ)) (place : ℕ) (name : List ℕ) → slice_get names place ≡ Some name → take (place + 1) names ≡ take place names ++ name ∷ []
next-name names place name held =
    take_more names place [] (slice_get_within names place name held) ∙ ap (λ n. take place names ++ n ∷ []) (get_or_from_slice_get names place name [] held)

-- one setting more
pub settings-more : (fixed free names : List (List ℕ)) (settings settings_now : List Setting) (place : ℕ) (name : List ℕ) (setting : Setting) → slice_get names place ≡ Some name
    → settings_now ≡ settings ++ setting ∷ [] → IsSetting fixed free name setting → AreSettings fixed free (take place names) settings → AreSettings fixed free (take (place + 1) names) settings_now
settings-more fixed free names settings settings_now place name setting held added is are =
    subst (λ (ns : List (List ℕ)). AreSettings fixed free ns settings_now) (sym (next-name names place name held))
    (subst (λ (ss : List Setting). AreSettings fixed free (take place names ++ name ∷ []) ss) (sym added) (all_zipped_more (IsSetting fixed free) (take place names) settings name setting are is))

-- the options that settings name are there
below : (fixed free : List (List ℕ)) (name : List ℕ) (setting : Setting) → IsSetting fixed free name setting → IsBelow (length free) setting
below fixed free name Fixed is = tt
below fixed free name (Free option) is = slice_get_within free option.0 name is.1
below fixed free name Unset is = tt

pub all_below : (fixed free names : List (List ℕ)) (settings : List Setting) → AreSettings fixed free names settings → All (IsBelow (length free)) settings
all_below fixed free [] [] are = All-nil (IsBelow (length free))
all_below fixed free [] (s ∷ settings) are = absurd are
all_below fixed free (n ∷ names) [] are = absurd are
all_below fixed free (n ∷ names) (s ∷ settings) are =
    All-cons (IsBelow (length free)) s settings (below fixed free n s are.0) (all_below fixed free names settings are.1)

-- ---- what is free, one name after another

free-more : (fixed names : List (List ℕ)) (name : List ℕ) (b : Bool) → is_among fixed name ≡ b → free_among fixed (names ++ name ∷ []) ≡ free_among fixed names ++ cond (not b) (name ∷ []) []
free-more fixed names name b is =
    filter-append (λ other. not (is_among fixed other)) names (name ∷ []) ∙ ap (λ b. free_among fixed names ++ cond (not b) (name ∷ []) []) is

-- a name that is always set adds nothing
pub free-fixed : (fixed names : List (List ℕ)) (place : ℕ) (name : List ℕ) → slice_get names place ≡ Some name → is_among fixed name ≡ true
    → free_among fixed (take (place + 1) names) ≡ free_among fixed (take place names)
free-fixed fixed names place name held is =
    ap (free_among fixed) (next-name names place name held) ∙ free-more fixed (take place names) name true is ∙ append-nil (free_among fixed (take place names))

-- and another adds itself
pub free-other : (fixed names : List (List ℕ)) (place : ℕ) (name : List ℕ) → slice_get names place ≡ Some name → is_among fixed name ≡ false
    → free_among fixed (take (place + 1) names) ≡ free_among fixed (take place names) ++ name ∷ []
free-other fixed names place name held isnt = ap (free_among fixed) (next-name names place name held) ∙ free-more fixed (take place names) name false isnt

-- ---- what is always set, named otherwise

module _ (fixed always : List (List ℕ)) (same : (name : List ℕ) → is_among fixed name ≡ is_among always name) where
  IsSetting-alike : (free : List (List ℕ)) (name : List ℕ) (setting : Setting) → IsSetting fixed free name setting → IsSetting always free name setting
  IsSetting-alike free name Fixed is = sym (same name) ∙ is
  IsSetting-alike free name (Free option) is = (sym (same name) ∙ is.0, is.1)
  IsSetting-alike free name Unset is = (sym (same name) ∙ is.0, is.1)

  pub AreSettings-alike : (free names : List (List ℕ)) (settings : List Setting) → AreSettings fixed free names settings → AreSettings always free names settings
  AreSettings-alike free [] [] each = tt
  AreSettings-alike free [] (s ∷ settings) each = absurd each
  AreSettings-alike free (n ∷ names) [] each = absurd each
  AreSettings-alike free (n ∷ names) (s ∷ settings) each = (IsSetting-alike free n s each.0, AreSettings-alike free names settings each.1)

  pub free_among-alike : (names : List (List ℕ)) → free_among fixed names ≡ free_among always names
  free_among-alike names = filter_agree (λ name. not (is_among fixed name)) (λ name. not (is_among always name)) (λ name. ap not (same name)) names

-- the names of a loaded document are those that its lines mention
pub free-loaded : (always : List (List ℕ)) (text : List ℕ) (d : Document) → IsLoaded text d → free_among always d.names ≡ free_names always (flat_of text d)
free-loaded always text d loaded =
    ap (free_among always) (loaded.named ∙ ap each_once (sym (flat_map-map (λ line. names_in line.kind) (flat_line text d.files (rounds_of d)) d.lines)))
