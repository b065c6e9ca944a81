-- The names of conditions, each once, in the order in which they are put into a table.
use Rattle.std.proofs.Common.{inl, inr, ◌≡◌, ℕ, zero, suc, ◌+◌, ◌<◌, ◌≤◌, Bool, true, false, not, ◌&&◌, ◌||◌, cond, List, [], ◌∷◌, ◌++◌, length, filter, map, take, drop, All, Option, Some, None, option_map, is_some, slice_get, slice_index_or, get_or, refl, sym, ap, ◌∙◌, arith}
use Rattle.std.specs.Cmp.Lexicographic.{bytes_decides}
use Rattle.std.specs.Str.{bytes_eq}
use Rattle.std.proofs.Math.Bool.{and-false, and-true}
use Rattle.std.proofs.lemmas.Bool.{cases_Bool, cases_eq, false≢true, false_from_ne_true}
use Rattle.std.proofs.lemmas.List.{append-nil, append_assoc, drop_more, length-append, length_push, get_or_append_left, map-append, take-append-drop, take_more}
use Rattle.std.proofs.lemmas.List.Elements.{All-head, All-push, All-tail, filter-append, filter_agree}
use Rattle.std.proofs.lemmas.List.Folds.{Any-from_list_any, list_any_at}
use Rattle.std.proofs.lemmas.Option.{get_or_from_slice_get, slice_get-get_or, slice_get_within}
use Rattle.vkb_formula.specs.declared.name_table.NameId.{NameId}
use Rattle.vkb_formula.specs.Names.{AreDifferent, place_of, with_name}
use Rattle.doc_tree.specs.Flat.{is_among}
use Rattle.doc_tree.specs.Names.{each_once}
use Rattle.doc_tree.specs.Progress.{Extends, with_names}

same_bytes : (a b : List ℕ) → bytes_eq a b ≡ true → a ≡ b
same_bytes a b h = (bytes_decides a b).0 h

-- a name that stands at a place is among the names
pub is_among-held : (names : List (List ℕ)) (name : List ℕ) (place : ℕ) → slice_get names place ≡ Some name → is_among names name ≡ true
is_among-held names name place held =
    list_any_at (bytes_eq name) names place [] (slice_get_within names place name held)
    ((bytes_decides name (get_or names place [])).1 (sym (get_or_from_slice_get names place name [] held)))

-- a name that is among names stands at a place
pub held-from_is_among : (names : List (List ℕ)) (name : List ℕ) → is_among names name ≡ true → (place : ℕ) × (slice_get names place ≡ Some name)
held-from_is_among names name h =
    let found = Any-from_list_any (bytes_eq name) names h in
    (found.0, slice_get-get_or names found.0 found.1 found.2 ∙ ap Some (found.3 ∙ sym (same_bytes name found.1 found.4)))

-- a name that stands at no place isn't among the names
pub is_among-absent : (names : List (List ℕ)) (name : List ℕ) → ((place : ℕ) → slice_get names place ≡ Some name → ⊥) → is_among names name ≡ false
is_among-absent names name none = false_from_ne_true (is_among names name) (λ h. let found = held-from_is_among names name h in none found.0 found.1)

-- what passes one test and then another passes both
filter-filter : {X : Type 0} (test then : X → Bool) (xs : List X) → filter then (filter test xs) ≡ filter (λ x. test x && then x) xs
filter-filter test then [] = refl
filter-filter test then (x ∷ xs) =
    let rest = filter-filter test then xs in
    elim (cases_Bool (test x)) [ inl passes ↦ rw passes (ap (λ ys. cond (then x) (x ∷ ys) ys) rest) | inr fails ↦ rw fails rest ]

-- one more name, that passes or doesn't
one_passes : (same later passes : Bool) → (same ≡ true → passes ≡ true) → (same || (later && passes)) ≡ ((same || later) && passes)
one_passes true later passes h = sym (h refl)
one_passes false later passes h = refl

one_fails : (same later passes : Bool) → (same ≡ true → passes ≡ false) → (later && passes) ≡ ((same || later) && passes)
one_fails true later passes h = let none = h refl in rw none (and-false later)
one_fails false later passes h = refl

-- a name is among those that pass where it is among all and passes
is_among-filter : (test : List ℕ → Bool) (names : List (List ℕ)) (name : List ℕ) → is_among (filter test names) name ≡ (is_among names name && test name)
is_among-filter test [] name = refl
is_among-filter test (first ∷ names) name =
    let rest = is_among-filter test names name in
    let as_first : bytes_eq name first ≡ true → test name ≡ test first = λ same. ap test ((bytes_decides name first).0 same) in
    elim (cases_Bool (test first)) [
      | inl passes ↦ rw passes (ap (λ b. bytes_eq name first || b) rest ∙ one_passes (bytes_eq name first) (is_among names name) (test name) (λ same. as_first same ∙ passes))
      | inr fails ↦ rw fails (rest ∙ one_fails (bytes_eq name first) (is_among names name) (test name) (λ same. as_first same ∙ fails))
    ]

-- what isn't the first is found later
or-not : (same later : Bool) → (same || (later && not same)) ≡ (same || later)
or-not true later = refl
or-not false later = and-true later

pub is_among-each_once : (names : List (List ℕ)) (name : List ℕ) → is_among (each_once names) name ≡ is_among names name
is_among-each_once [] name = refl
is_among-each_once (first ∷ names) name =
    ap (λ b. bytes_eq name first || b) (is_among-filter (λ other. not (bytes_eq other first)) (each_once names) name)
    ∙ or-not (bytes_eq name first) (is_among (each_once names) name)
    ∙ ap (λ b. bytes_eq name first || b) (is_among-each_once names name)

first-or-later : (first : Bool) (later : Option ℕ) → is_some (cond first (Some 0) (option_map (λ place. place + 1) later)) ≡ (first || is_some later)
first-or-later true later = refl
first-or-later false None = refl
first-or-later false (Some place) = refl

-- a name has a place in a table exactly where it is among its names
is_some-place_of : (name : List ℕ) (names : List (List ℕ)) → is_some (place_of name names) ≡ is_among names name
is_some-place_of name [] = refl
is_some-place_of name (first ∷ names) =
    first-or-later (bytes_eq name first) (place_of name names) ∙ ap (λ later. bytes_eq name first || later) (is_some-place_of name names)

-- a name that is among a table's changes nothing
with_name-held : (name : List ℕ) (names : List (List ℕ)) → is_among names name ≡ true → with_name name names ≡ names
with_name-held name names h = ap (λ b. cond b names (names ++ name ∷ [])) (is_some-place_of name names ∙ h)

-- a name that isn't among a table's is put last
with_name-new : (name : List ℕ) (names : List (List ℕ)) → is_among names name ≡ false → with_name name names ≡ names ++ name ∷ []
with_name-new name names h = ap (λ b. cond b names (names ++ name ∷ [])) (is_some-place_of name names ∙ h)

-- ---- in order

not-or : (later same : Bool) → (not later && not same) ≡ not (same || later)
not-or true true = refl
not-or true false = refl
not-or false true = refl
not-or false false = refl

-- all pass where every one does
all_pass : (names : List (List ℕ)) → filter (λ name. not (is_among [] name)) names ≡ names
all_pass [] = refl
all_pass (name ∷ names) = ap (λ rest. name ∷ rest) (all_pass names)

-- further names add those that are new
pub each_once-append : (names more : List (List ℕ)) → each_once (names ++ more) ≡ each_once names ++ filter (λ name. not (is_among names name)) (each_once more)
each_once-append [] more = sym (all_pass (each_once more))
each_once-append (first ∷ names) more =
    let others : List ℕ → Bool = λ other. not (bytes_eq other first) in
    let new : List ℕ → Bool = λ name. not (is_among names name) in
    ap (λ rest. first ∷ rest)
    (ap (filter others) (each_once-append names more)
    ∙ filter-append others (each_once names) (filter new (each_once more))
    ∙ ap (λ rest. filter others (each_once names) ++ rest)
    (filter-filter new others (each_once more)
    ∙ filter_agree (λ name. new name && others name) (λ name. not (is_among (first ∷ names) name)) (λ name. not-or (is_among names name) (bytes_eq name first)) (each_once more)))

-- a name more
pub each_once-more : (names : List (List ℕ)) (name : List ℕ) → each_once (names ++ name ∷ []) ≡ with_name name (each_once names)
each_once-more names name =
    each_once-append names (name ∷ [])
    ∙ elim (cases_Bool (is_among names name)) [
      | inl held ↦
          rw held (append-nil (each_once names) ∙ sym (with_name-held name (each_once names) (is_among-each_once names name ∙ held)))
      | inr new ↦
          rw new (sym (with_name-new name (each_once names) (is_among-each_once names name ∙ new)))
    ]

-- names more
pub each_once-names : (names more : List (List ℕ)) → each_once (names ++ more) ≡ with_names more (each_once names)
each_once-names names [] = ap each_once (append-nil names)
each_once-names names (name ∷ more) =
    ap each_once (sym (append_assoc names (name ∷ []) more))
    ∙ each_once-names (names ++ name ∷ []) more
    ∙ ap (with_names more) (each_once-more names name)

-- a name that was put in before
pub each_once-held : (names : List (List ℕ)) (name : List ℕ) → is_among names name ≡ true → each_once (names ++ name ∷ []) ≡ each_once names
each_once-held names name held = each_once-more names name ∙ with_name-held name (each_once names) (is_among-each_once names name ∙ held)

-- a name that wasn't
pub each_once-new : (names : List (List ℕ)) (name : List ℕ) → is_among names name ≡ false → each_once (names ++ name ∷ []) ≡ each_once names ++ name ∷ []
each_once-new names name new = each_once-more names name ∙ with_name-new name (each_once names) (is_among-each_once names name ∙ new)

-- ---- each once

-- no name stands behind itself
abbrev AreOnce : List (List ℕ) → Type 0
AreOnce [] = Unit {0}
AreOnce (name ∷ names) = (is_among names name ≡ false) × AreOnce names

AreOnce-filter : (test : List ℕ → Bool) (names : List (List ℕ)) → AreOnce names → AreOnce (filter test names)
AreOnce-filter test [] once = tt
AreOnce-filter test (name ∷ names) once =
    let rest = AreOnce-filter test names once.1 in
    let new : is_among (filter test names) name ≡ false = is_among-filter test names name ∙ ap (λ b. b && test name) once.0 in
    elim (cases_Bool (test name)) [ inl passes ↦ rw passes (new, rest) | inr fails ↦ rw fails rest ]

AreOnce-each_once : (names : List (List ℕ)) → AreOnce (each_once names)
AreOnce-each_once [] = tt
AreOnce-each_once (name ∷ names) =
    let is_itself : bytes_eq name name ≡ true = (bytes_decides name name).1 refl in
    let others : List ℕ → Bool = λ other. not (bytes_eq other name) in (
      is_among-filter others (each_once names) name ∙ ap (λ b. is_among (each_once names) name && not b) is_itself ∙ and-false (is_among (each_once names) name),
      AreOnce-filter others (each_once names) (AreOnce-each_once names),
    )

-- the first name stands at no later place
never_later : (name : List ℕ) (names : List (List ℕ)) (place : ℕ) (other : List ℕ) → is_among names name ≡ false → Some name ≡ Some other → slice_get names place ≡ Some other → ⊥
never_later name names place other new first later =
    false≢true (sym new ∙ is_among-held names name place (later ∙ sym first))

AreDifferent-once : (names : List (List ℕ)) → AreOnce names → AreDifferent names
AreDifferent-once [] once i j name at_i at_j = cc
AreDifferent-once (first ∷ names) once zero zero name at_i at_j = refl
AreDifferent-once (first ∷ names) once zero (suc j) name at_i at_j = absurd (never_later first names j name once.0 at_i at_j)
AreDifferent-once (first ∷ names) once (suc i) zero name at_i at_j = absurd (never_later first names i name once.0 at_j at_i)
AreDifferent-once (first ∷ names) once (suc i) (suc j) name at_i at_j = ap (λ n. suc n) (AreDifferent-once names once.1 i j name at_i at_j)

pub AreDifferent-each_once : (names : List (List ℕ)) → AreDifferent (each_once names)
AreDifferent-each_once names = AreDifferent-once (each_once names) (AreOnce-each_once names)

-- ---- a table as it grows

-- functions that agree on a list
pub map_alike : {X Y : Type 0} (f g : X → Y) (xs : List X) → All (λ x. f x ≡ g x) xs → map f xs ≡ map g xs
map_alike f g [] alike = refl
map_alike f g (x ∷ xs) alike =
    let first : f x ≡ g x = All-head (λ x. f x ≡ g x) x xs alike in
    let rest = map_alike f g xs (All-tail (λ x. f x ≡ g x) x xs alike) in
    cc

pub with_name-extends : (name : List ℕ) (names : List (List ℕ)) → Extends names (with_name name names)
with_name-extends name names =
    elim (cases_Bool (is_among names name)) [
      | inl held ↦ ([], with_name-held name names held ∙ sym (append-nil names))
      | inr new ↦ (name ∷ [], with_name-new name names new)
    ]

pub extends_on : {A : Type 0} (xs ys zs : List A) → Extends xs ys → Extends ys zs → Extends xs zs
extends_on {A = A} xs ys zs a b = (a.0 ++ b.0, b.1 ∙ ap (λ (l : List A). l ++ b.0) a.1 ∙ append_assoc xs a.0 b.0)

pub extends_itself : {A : Type 0} (xs : List A) → Extends xs xs
extends_itself xs = ([], sym (append-nil xs))

pub extends_length : {A : Type 0} (xs ys : List A) → Extends xs ys → length xs ≤ length ys
extends_length xs ys e = let all = ap length e.1 ∙ length-append xs e.0 in omega arith

pub with_names-extends : (more names : List (List ℕ)) → Extends names (with_names more names)
with_names-extends [] names = extends_itself names
with_names-extends (name ∷ more) names = extends_on names (with_name name names) (with_names more (with_name name names)) (with_name-extends name names) (with_names-extends more (with_name name names))

pub with_names-append : (front back names : List (List ℕ)) → with_names (front ++ back) names ≡ with_names back (with_names front names)
with_names-append [] back names = refl
with_names-append (name ∷ front) back names = with_names-append front back (with_name name names)

-- what stands in a table stays there
pub stays : {A : Type 0} (xs ys : List A) (k : ℕ) (d : A) → Extends xs ys → k < length xs → slice_index_or ys k d ≡ slice_index_or xs k d
stays {A = A} xs ys k d e below = ap (λ (l : List A). slice_index_or l k d) e.1 ∙ get_or_append_left xs e.0 d k below

-- a name that isn't found makes the table longer
pub one_too_many : (front back table now : List (List ℕ)) (name : List ℕ) (most : ℕ) → with_names front table ≡ now → place_of name now ≡ None → length now ≡ most → most < length (with_names (front ++ name ∷ back) table)
one_too_many front back table now name most was new full =
    let added : with_name name now ≡ now ++ name ∷ [] = rw new refl in
    let all : with_names (front ++ name ∷ back) table ≡ with_names back (now ++ name ∷ []) = with_names-append front (name ∷ back) table ∙ ap (λ (t : List (List ℕ)). with_names back (with_name name t)) was ∙ ap (with_names back) added in
    let longer = extends_length (now ++ name ∷ []) (with_names back (now ++ name ∷ [])) (with_names-extends back (now ++ name ∷ [])) in
    let one = length_push now name in
    let count = ap length all in
    omega arith

-- ---- names are put in, one by one

module _ (names table now : List (List ℕ)) (i : ℕ) (name : List ℕ) (below : i < length names) (here : get_or names i [] ≡ name) (was : with_names (take i names) table ≡ now) where
  next_name : take (i + 1) names ≡ take i names ++ name ∷ []
  next_name = take_more names i [] below ∙ ap (λ (n : List ℕ). take i names ++ n ∷ []) here

  pub intern_table : (after : List (List ℕ)) → after ≡ with_name name now → with_names (take (i + 1) names) table ≡ after
  intern_table after is =
      ap (λ (ns : List (List ℕ)). with_names ns table) next_name
      ∙ with_names-append (take i names) (name ∷ []) table
      ∙ ap (with_name name) was
      ∙ sym is

  pub intern_full : (most : ℕ) → place_of name now ≡ None → length now ≡ most → most < length (with_names names table)
  intern_full most new full =
      let rest : drop i names ≡ name ∷ drop (i + 1) names = drop_more names i [] below ∙ ap (λ (n : List ℕ). n ∷ drop (i + 1) names) here in
      let all : take i names ++ name ∷ drop (i + 1) names ≡ names = ap (λ (ns : List (List ℕ)). take i names ++ ns) (sym rest) ∙ take-append-drop i names in
      let more = one_too_many (take i names) (drop (i + 1) names) table now name most was new full in
      let same = ap (λ (ns : List (List ℕ)). length (with_names ns table)) all in
      omega arith

  pub intern_ids : (after : List (List ℕ)) (ids : List NameId) (id : NameId) → after ≡ with_name name now → map (λ id. slice_index_or now id.0 []) ids ≡ take i names → All (λ id. id.0 < length now) ids → slice_get after id.0 ≡ Some name
      → map (λ id. slice_index_or after id.0 []) (ids ++ id ∷ []) ≡ take (i + 1) names
  intern_ids after ids id is mapped each held =
      let grows : Extends now after = let e = with_name-extends name now in (e.0, is ∙ e.1) in
      let same : map (λ id. slice_index_or after id.0 []) ids ≡ map (λ id. slice_index_or now id.0 []) ids =
      map_alike (λ id. slice_index_or after id.0 []) (λ id. slice_index_or now id.0 []) ids (λ k d inside. stays now after (get_or ids k d).0 [] grows (each k d inside)) in
      let last : slice_index_or after id.0 [] ≡ name = get_or_from_slice_get after id.0 name [] held in
      map-append (λ id. slice_index_or after id.0 []) ids (id ∷ [])
      ∙ ap (λ (ns : List (List ℕ)). ns ++ slice_index_or after id.0 [] ∷ []) (same ∙ mapped)
      ∙ ap (λ (n : List ℕ). take i names ++ n ∷ []) last
      ∙ sym next_name

  pub intern_each : (after : List (List ℕ)) (ids : List NameId) (id : NameId) → after ≡ with_name name now → All (λ id. id.0 < length now) ids → slice_get after id.0 ≡ Some name → All (λ id. id.0 < length after) (ids ++ id ∷ [])
  intern_each after ids id is each held =
      let grows : Extends now after = let e = with_name-extends name now in (e.0, is ∙ e.1) in
      let longer = extends_length now after grows in
      All-push (λ id. id.0 < length after) ids id (λ k d inside. let was = each k d inside in omega arith) (slice_get_within after id.0 name held)

some_or_none : (found : Option ℕ) → is_some found ≡ false → found ≡ None
some_or_none None none = refl
some_or_none (Some place) none = absurd (false≢true (sym none))

-- a table that isn't full isn't too full after a name is put in
pub intern_few : (now after : List (List ℕ)) (name : List ℕ) (most : ℕ) → after ≡ with_name name now → ((place_of name now ≡ None) × (length now ≡ most) → ⊥) → length now ≤ most → length after ≤ most
intern_few now after name most is room few =
    elim (cases_Bool (is_some (place_of name now))) [
      | inl held ↦
          let same : with_name name now ≡ now = rw held refl in
          let count = ap length (is ∙ same) in
          omega arith
      | inr new ↦
          let added : with_name name now ≡ now ++ name ∷ [] = rw new refl in
          let count = ap length (is ∙ added) ∙ length_push now name in
          elim (cases_eq (length now) most) [
            | inl full ↦ absurd (room (some_or_none (place_of name now) new, full))
            | inr less ↦ omega (arith, less)
          ]
    ]
