-- Malformed tags of files: there is one first, if there is any, and what stands in the way of new tags is one thing or nothing.
use Rattle.std.proofs.Common.{inl, inr, ◌≡◌, ◌||◌, ℕ, zero, suc, ◌+◌, ◌<◌, Bool, true, false, List, [], ◌∷◌, length, take, drop, count_by, refl, sym, ap, ◌∙◌, subst, arith}
use Rattle.std.specs.List.{list_any}
use Rattle.std.proofs.lemmas.Bool.{cases_Bool, cases_lt, cases_order, false≢true}
use Rattle.vu_tags.specs.Lines.{is_line_feed}
use Rattle.vu_tags.specs.Statements.{needed_of}
use Rattle.vu_tags.specs.Tagged.{CanTag, HasTooFew, left_of}
use Rattle.vu_tags.specs.Tags.{IsFirstBad, IsFirstMalformed, file_at, has_malformed, is_malformed, tails}

-- ---- in one text

nothing_malformed : is_malformed [] ≡ false
unfolding is_malformed
nothing_malformed = refl

some_malformed : (text : List ℕ) (place : ℕ) → is_malformed (drop place text) ≡ true → list_any is_malformed (tails text) ≡ true
some_malformed [] zero here = absurd (false≢true (sym nothing_malformed ∙ here))
some_malformed [] (suc place) here = absurd (false≢true (sym nothing_malformed ∙ here))
some_malformed (byte ∷ bytes) zero here = ap (λ (b : Bool). b || list_any is_malformed (tails bytes)) here
some_malformed (byte ∷ bytes) (suc place) here =
    elim (cases_Bool (is_malformed (byte ∷ bytes))) [
      | inl first ↦ ap (λ (b : Bool). b || list_any is_malformed (tails bytes)) first
      | inr later ↦ ap (λ (b : Bool). b || list_any is_malformed (tails bytes)) later ∙ some_malformed bytes place here
    ]

later_malformed : (byte : ℕ) (bytes : List ℕ) (place : ℕ) → is_malformed (byte ∷ bytes) ≡ false → IsFirstMalformed bytes place → IsFirstMalformed (byte ∷ bytes) (suc place)
later_malformed byte bytes place not_first is = record { here = is.here; none_before = before_it }
  where
    before_it : (before : ℕ) → before < suc place → is_malformed (drop before (byte ∷ bytes)) ≡ false
    before_it zero below = not_first
    before_it (suc before) below = is.none_before before (omega arith)

first_malformed : (text : List ℕ) → list_any is_malformed (tails text) ≡ true → (place : ℕ) × IsFirstMalformed text place
first_malformed [] some = absurd (false≢true some)
first_malformed (byte ∷ bytes) some =
    elim (cases_Bool (is_malformed (byte ∷ bytes))) [
      | inl first ↦ (0, record { here = first; none_before = λ before below. absurd (omega arith) })
      | inr later ↦
          let rest = first_malformed bytes (sym (ap (λ (b : Bool). b || list_any is_malformed (tails bytes)) later) ∙ some) in
          (suc rest.0, later_malformed byte bytes rest.0 later rest.1)
    ]

malformed_there : (text : List ℕ) (place : ℕ) → IsFirstMalformed text place → has_malformed text ≡ true
unfolding has_malformed
malformed_there text place is = some_malformed text place is.here

malformed_first : (text : List ℕ) → has_malformed text ≡ true → (place : ℕ) × IsFirstMalformed text place
unfolding has_malformed
malformed_first text some = first_malformed text some

same_malformed : (text : List ℕ) (place other : ℕ) → IsFirstMalformed text place → IsFirstMalformed text other → place ≡ other
same_malformed text place other is also =
    elim (cases_order place other) [
      | inl same ↦ same
      | inr (inl less) ↦ absurd (false≢true (sym (also.none_before place less) ∙ is.here))
      | inr (inr more) ↦ absurd (false≢true (sym (is.none_before other more) ∙ also.here))
    ]

-- ---- in all files

nothing_has : has_malformed [] ≡ false
unfolding has_malformed
nothing_has = refl

some_file : (files : List (List ℕ)) (file : ℕ) → has_malformed (file_at files file) ≡ true → (list_any has_malformed files ≡ true) × (file < length files)
some_file [] zero has = absurd (false≢true (sym nothing_has ∙ has))
some_file [] (suc file) has = absurd (false≢true (sym nothing_has ∙ has))
some_file (first ∷ files) zero has = (ap (λ (b : Bool). b || list_any has_malformed files) has, omega arith)
some_file (first ∷ files) (suc file) has =
    let rest = some_file files file has in
    let below = rest.1 in (
      elim (cases_Bool (has_malformed first)) [
        | inl here ↦ ap (λ (b : Bool). b || list_any has_malformed files) here
        | inr later ↦ ap (λ (b : Bool). b || list_any has_malformed files) later ∙ rest.0
      ],
      omega arith,
    )

-- the first file that has a malformed tag
record IsFirstFile (files : List (List ℕ)) (file : ℕ) : Type 0 where
  pub here : has_malformed (file_at files file) ≡ true
  pub none_before : (before : ℕ) → before < file → has_malformed (file_at files before) ≡ false

later_file : (first : List ℕ) (files : List (List ℕ)) (file : ℕ) → has_malformed first ≡ false → IsFirstFile files file → IsFirstFile (first ∷ files) (suc file)
later_file first files file not_first is = record { here = is.here; none_before = before_it }
  where
    before_it : (before : ℕ) → before < suc file → has_malformed (file_at (first ∷ files) before) ≡ false
    before_it zero below = not_first
    before_it (suc before) below = is.none_before before (omega arith)

first_file : (files : List (List ℕ)) → list_any has_malformed files ≡ true → (file : ℕ) × IsFirstFile files file
first_file [] some = absurd (false≢true some)
first_file (first ∷ files) some =
    elim (cases_Bool (has_malformed first)) [
      | inl here ↦ (0, record { here = here; none_before = λ before below. absurd (omega arith) })
      | inr later ↦
          let rest = first_file files (sym (ap (λ (b : Bool). b || list_any has_malformed files) later) ∙ some) in
          (suc rest.0, later_file first files rest.0 later rest.1)
    ]

-- a first malformed tag is one, in a file that is there
pub bad_there : (files : List (List ℕ)) (file line : ℕ) → IsFirstBad files file line → (list_any has_malformed files ≡ true) × (file < length files)
bad_there files file line is = some_file files file (malformed_there (file_at files file) is.place is.first)

-- there is one where any file has one
bad_first : (files : List (List ℕ)) → list_any has_malformed files ≡ true → (file : ℕ) × (line : ℕ) × IsFirstBad files file line
bad_first files some =
    let file = first_file files some in
    let place = malformed_first (file_at files file.0) file.1.here in
    (file.0, count_by is_line_feed (take place.0 (file_at files file.0)) + 1, record { place = place.0; first = place.1; line_is = refl; none_before = file.1.none_before })

-- and only one
same_line : (files : List (List ℕ)) (file line other : ℕ) → IsFirstBad files file line → IsFirstBad files file other → line ≡ other
same_line files file line other is also =
    let places = same_malformed (file_at files file) is.place also.place is.first also.first in
    is.line_is ∙ ap (λ (place : ℕ). count_by is_line_feed (take place (file_at files file)) + 1) places ∙ sym also.line_is

pub same_bad : (files : List (List ℕ)) (file line other number : ℕ) → IsFirstBad files file line → IsFirstBad files other number → (file ≡ other) × (line ≡ number)
same_bad files file line other number is also =
    elim (cases_order file other) [
      | inl same ↦ (same, same_line files file line number is (subst (λ (f : ℕ). IsFirstBad files f number) (sym same) also))
      | inr (inl less) ↦ absurd (false≢true (sym (also.none_before file less) ∙ malformed_there (file_at files file) is.place is.first))
      | inr (inr more) ↦ absurd (false≢true (sym (is.none_before other more) ∙ malformed_there (file_at files other) also.place also.first))
    ]

-- a first malformed tag stands in the files, or the numbers don't suffice, or new tags can be given
pub data Standing (first : ℕ) (files : List (List ℕ)) : Type 0 where
  malformed : (file line : ℕ) → IsFirstBad files file line → Standing first files
  too_few : HasTooFew first files → Standing first files
  can_tag : CanTag first files → Standing first files

pub stands : (first : ℕ) (files : List (List ℕ)) → Standing first files
stands first files =
    elim (cases_Bool (list_any has_malformed files)) [
      | inl some ↦ let bad = bad_first files some in malformed bad.0 bad.1 bad.2
      | inr well ↦ elim (cases_lt (left_of first files) (needed_of files)) [
        | inl few ↦ too_few (record { well = well; too_few = few })
        | inr enough ↦ can_tag (record { well = well; enough = enough })
      ]
    ]
