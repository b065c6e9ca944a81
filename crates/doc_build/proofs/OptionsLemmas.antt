-- Which names are options, and in which order.
use Rattle.std.proofs.Common.{inl, inr, ◌≡◌, ℕ, zero, suc, Bool, true, false, not, ◌&&◌, ◌||◌, cond, List, [], ◌∷◌, ◌++◌, length, filter, get_or, replicate, Some, slice_get, refl, sym, ap, ◌∙◌}
use Rattle.std.specs.Cmp.Lexicographic.{bytes_decides}
use Rattle.std.specs.List.{flat_map}
use Rattle.std.specs.Str.{bytes_eq}
use Rattle.std.proofs.Math.Bool.{and-false, and-true}
use Rattle.std.proofs.lemmas.Bool.{cases_Bool, false≢true}
use Rattle.std.proofs.lemmas.Grind.{flat_map-append}
use Rattle.std.proofs.lemmas.List.Elements.{filter-append, filter_agree}
use Rattle.std.proofs.lemmas.List.Folds.{list_any_at}
use Rattle.std.proofs.lemmas.Option.{get_or_from_slice_get, slice_get_within}
use Rattle.vkb_formula.specs.Names.{AreDifferent}
use Rattle.doc_tree.specs.Flat.{FlatLine, is_among}
use Rattle.doc_tree.specs.Names.{each_once, names_in}
use Rattle.doc_build.specs.Choices.{chosen_of, free_names}

-- the names that a line mentions
abbrev names_of : FlatLine → List (List ℕ)
names_of line = names_in line.kind

is_among-held : (names : List (List ℕ)) (name : List ℕ) (place : ℕ) → slice_get names place ≡ Some name → is_among names name ≡ true
is_among-held names name place held =
    list_any_at (bytes_eq name) names place [] (slice_get_within names place name held)
    ((bytes_decides name (get_or names place [])).1 (sym (get_or_from_slice_get names place name [] held)))

-- ---- what is among the names that pass a test

-- what passes one test and then another passes both
filter-filter : {X : Type 0} (test then : X → Bool) (xs : List X) → filter then (filter test xs) ≡ filter (λ x. test x && then x) xs
filter-filter test then [] = refl
filter-filter test then (x ∷ xs) =
    let rest = filter-filter test then xs in
    elim (cases_Bool (test x)) [ inl passes ↦ rw passes (ap (λ ys. cond (then x) (x ∷ ys) ys) rest) | inr fails ↦ rw fails rest ]

-- one more name, that passes or doesn't
one_passes : (same later passes : Bool) → (same ≡ true → passes ≡ true) → (same || (later && passes)) ≡ ((same || later) && passes)
one_passes true later passes h = sym (h refl)
one_passes false later passes h = refl

one_fails : (same later passes : Bool) → (same ≡ true → passes ≡ false) → (later && passes) ≡ ((same || later) && passes)
one_fails true later passes h = let none = h refl in rw none (and-false later)
one_fails false later passes h = refl

-- a name is among those that pass where it is among all and passes
is_among-filter : (test : List ℕ → Bool) (names : List (List ℕ)) (name : List ℕ) → is_among (filter test names) name ≡ (is_among names name && test name)
is_among-filter test [] name = refl
is_among-filter test (first ∷ names) name =
    let rest = is_among-filter test names name in
    let as_first : bytes_eq name first ≡ true → test name ≡ test first = λ same. ap test ((bytes_decides name first).0 same) in
    elim (cases_Bool (test first)) [
      | inl passes ↦ rw passes (ap (λ b. bytes_eq name first || b) rest ∙ one_passes (bytes_eq name first) (is_among names name) (test name) (λ same. as_first same ∙ passes))
      | inr fails ↦ rw fails (rest ∙ one_fails (bytes_eq name first) (is_among names name) (test name) (λ same. as_first same ∙ fails))
    ]

-- what isn't the first is found later
or-not : (same later : Bool) → (same || (later && not same)) ≡ (same || later)
or-not true later = refl
or-not false later = and-true later

is_among-each_once : (names : List (List ℕ)) (name : List ℕ) → is_among (each_once names) name ≡ is_among names name
is_among-each_once [] name = refl
is_among-each_once (first ∷ names) name =
    ap (λ b. bytes_eq name first || b) (is_among-filter (λ other. not (bytes_eq other first)) (each_once names) name)
    ∙ or-not (bytes_eq name first) (is_among (each_once names) name)
    ∙ ap (λ b. bytes_eq name first || b) (is_among-each_once names name)

-- the options are the names that conditions mention and that aren't always set
pub option_members : (always : List (List ℕ)) (lines : List FlatLine) (name : List ℕ) → is_among (free_names always lines) name ≡ (is_among (flat_map names_of lines) name && not (is_among always name))
option_members always lines name =
    is_among-filter (λ other. not (is_among always other)) (each_once (flat_map names_of lines)) name ∙ ap (λ b. b && not (is_among always name)) (is_among-each_once (flat_map names_of lines) name)

-- ---- each once

-- no name stands behind itself
abbrev AreOnce : List (List ℕ) → Type 0
AreOnce [] = Unit {0}
AreOnce (name ∷ names) = (is_among names name ≡ false) × AreOnce names

AreOnce-filter : (test : List ℕ → Bool) (names : List (List ℕ)) → AreOnce names → AreOnce (filter test names)
AreOnce-filter test [] once = tt
AreOnce-filter test (name ∷ names) once =
    let rest = AreOnce-filter test names once.1 in
    let new : is_among (filter test names) name ≡ false = is_among-filter test names name ∙ ap (λ b. b && test name) once.0 in
    elim (cases_Bool (test name)) [ inl passes ↦ rw passes (new, rest) | inr fails ↦ rw fails rest ]

AreOnce-each_once : (names : List (List ℕ)) → AreOnce (each_once names)
AreOnce-each_once [] = tt
AreOnce-each_once (name ∷ names) =
    let is_itself : bytes_eq name name ≡ true = (bytes_decides name name).1 refl in
    let others : List ℕ → Bool = λ other. not (bytes_eq other name) in (
      is_among-filter others (each_once names) name ∙ ap (λ b. is_among (each_once names) name && not b) is_itself ∙ and-false (is_among (each_once names) name),
      AreOnce-filter others (each_once names) (AreOnce-each_once names),
    )

-- the first name stands at no later place
never_later : (name : List ℕ) (names : List (List ℕ)) (place : ℕ) (other : List ℕ) → is_among names name ≡ false → Some name ≡ Some other → slice_get names place ≡ Some other → ⊥
never_later name names place other new first later =
    false≢true (sym new ∙ is_among-held names name place (later ∙ sym first))

AreDifferent-once : (names : List (List ℕ)) → AreOnce names → AreDifferent names
AreDifferent-once [] once i j name at_i at_j = cc
AreDifferent-once (first ∷ names) once zero zero name at_i at_j = refl
AreDifferent-once (first ∷ names) once zero (suc j) name at_i at_j = absurd (never_later first names j name once.0 at_i at_j)
AreDifferent-once (first ∷ names) once (suc i) zero name at_i at_j = absurd (never_later first names i name once.0 at_j at_i)
AreDifferent-once (first ∷ names) once (suc i) (suc j) name at_i at_j = ap (λ n. suc n) (AreDifferent-once names once.1 i j name at_i at_j)

-- the options differ
pub options_differ : (always : List (List ℕ)) (lines : List FlatLine) → AreDifferent (free_names always lines)
options_differ always lines =
    AreDifferent-once (free_names always lines) (AreOnce-filter (λ name. not (is_among always name)) (each_once (flat_map names_of lines)) (AreOnce-each_once (flat_map names_of lines)))

-- ---- in order

not-or : (later same : Bool) → (not later && not same) ≡ not (same || later)
not-or true true = refl
not-or true false = refl
not-or false true = refl
not-or false false = refl

-- all pass where every one does
all_pass : (names : List (List ℕ)) → filter (λ name. not (is_among [] name)) names ≡ names
all_pass [] = refl
all_pass (name ∷ names) = ap (λ rest. name ∷ rest) (all_pass names)

-- further names add those that are new
pub each_once-append : (names more : List (List ℕ)) → each_once (names ++ more) ≡ each_once names ++ filter (λ name. not (is_among names name)) (each_once more)
each_once-append [] more = sym (all_pass (each_once more))
each_once-append (first ∷ names) more =
    let others : List ℕ → Bool = λ other. not (bytes_eq other first) in
    let new : List ℕ → Bool = λ name. not (is_among names name) in
    ap (λ rest. first ∷ rest)
    (ap (filter others) (each_once-append names more)
    ∙ filter-append others (each_once names) (filter new (each_once more))
    ∙ ap (λ rest. filter others (each_once names) ++ rest)
    (filter-filter new others (each_once more)
    ∙ filter_agree (λ name. new name && others name) (λ name. not (is_among (first ∷ names) name)) (λ name. not-or (is_among names name) (bytes_eq name first)) (each_once more)))

-- a name that isn't always set is an option where it is mentioned
new-option : (mentioned fixed : Bool) → (not mentioned && not fixed) ≡ (not fixed && not (mentioned && not fixed))
new-option true true = refl
new-option true false = refl
new-option false true = refl
new-option false false = refl

-- further lines add the options that are new
pub options_more : (always : List (List ℕ)) (lines more : List FlatLine) → free_names always (lines ++ more) ≡ free_names always lines ++ filter (λ name. not (is_among (free_names always lines) name)) (free_names always more)
options_more always lines more =
    let names = flat_map names_of lines in
    let further = each_once (flat_map names_of more) in
    let free : List ℕ → Bool = λ name. not (is_among always name) in
    let new : List ℕ → Bool = λ name. not (is_among names name) in
    let added : List ℕ → Bool = λ name. not (is_among (free_names always lines) name) in
    ap (λ all. filter free (each_once all)) (flat_map-append names_of lines more)
    ∙ ap (filter free) (each_once-append names (flat_map names_of more))
    ∙ filter-append free (each_once names) (filter new further)
    ∙ ap (λ rest. free_names always lines ++ rest)
    (filter-filter new free further
    ∙ filter_agree (λ name. new name && free name) (λ name. free name && added name)
    (λ name. new-option (is_among names name) (is_among always name) ∙ ap (λ b. free name && not b) (sym (option_members always lines name))) further
    ∙ sym (filter-filter free added further))

-- ---- a choice

-- the choice of nothing chooses nothing
pub none_chosen : (options : List (List ℕ)) → chosen_of options (replicate (length options) false) ≡ []
none_chosen [] = refl
none_chosen (option ∷ options) = none_chosen options
