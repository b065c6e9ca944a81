-- What a tag says, and what the tags of a file say one after another.
use Rattle.std.proofs.Common.{◌≡◌, ℕ, suc, ◌+◌, ◌-◌, ◌<◌, ◌^◌, Bool, true, false, eqb, List, [], ◌∷◌, ◌++◌, Option, Some, None, length, take, drop, get_or, append-nil, refl, sym, ap, ◌∙◌, inl, inr, arith}
use Rattle.std.specs.Prelude.{◌&&◌, max, min, option_map}
use Rattle.std.specs.List.{cons_option, flat_map, fold, list_any}
use Rattle.std.proofs.lemmas.List.{take_more}
use Rattle.std.proofs.lemmas.List.Concat.{flat_map-append}
use Rattle.std.proofs.lemmas.List.Folds.{list_any_more}
use Rattle.std.proofs.lemmas.List.Sums.{fold-append}
use Rattle.std.proofs.lemmas.Bool.{cases_Bool, cases_lt, ne_eqb}
use Rattle.std.proofs.lemmas.List.{drop-drop}
use Rattle.vkb_bytes.specs.Bytes.{begins}
use Rattle.vkb_bytes.specs.Numbers.{is_numeral, numeral_of, short_numeral_of}
use Rattle.vu_tags.specs.Statements.{tag_front}
use Rattle.vu_tags.specs.Tags.{has_malformed, is_malformed, is_misnumbered, last_part, number_at, number_of, numbers_of, past, start_of, tag_at}
use Rattle.vu_tags.specs.Reading.{IsRead}
use Rattle.vu_tags.specs.declared.tags.Front.{Front}
use Rattle.vu_tags.specs.declared.tags.Front.TheVariants.{Malformed, Plain, Numbered}
use Rattle.vu_tags.proofs.PlaceLemmas.{found_from, none_found}

and_false : (b : Bool) → (b && false) ≡ false
and_false true = refl
and_false false = refl

and_true : (b : Bool) → (b && true) ≡ b
and_true true = refl
and_true false = refl

-- a last part of five bytes
pub five_read : (text : List ℕ) (number : ℕ) → length (last_part text) ≡ 5 → Some number ≡ short_numeral_of (last_part text) → number < 10 ^ 9
    → IsRead (is_misnumbered text) (number_of text) (Numbered number)
unfolding is_misnumbered number_of short_numeral_of
five_read text number five is small =
    let read : short_numeral_of (last_part text) ≡ Some number = sym is in
    (rw five (and_false _), rw five (rw five at read), omega arith)

pub five_plain : (text : List ℕ) → length (last_part text) ≡ 5 → None ≡ short_numeral_of (last_part text) → IsRead (is_misnumbered text) (number_of text) Plain
unfolding is_misnumbered number_of short_numeral_of
five_plain text five is =
    let read : short_numeral_of (last_part text) ≡ None = sym is in
    (rw five (and_false _), rw five (rw five at read))

-- a last part of more or fewer
pub other_malformed : (text : List ℕ) (number : ℕ) → (length (last_part text) ≡ 5 → ⊥)
    → Some number ≡ option_map (λ n. min n (2 ^ 128 - 1)) (numeral_of 10 (last_part text)) → IsRead (is_misnumbered text) (number_of text) Malformed
unfolding is_misnumbered numeral_of
other_malformed text number differs is =
    let other : eqb (length (last_part text)) 5 ≡ false = ne_eqb (length (last_part text)) 5 differs in
    elim (cases_Bool (is_numeral 10 (last_part text))) [
      | inl digits ↦ rw (digits, other) refl
      | inr others ↦ let none = rw others at is in cc
    ]

pub other_plain : (text : List ℕ) → (length (last_part text) ≡ 5 → ⊥)
    → None ≡ option_map (λ n. min n (2 ^ 128 - 1)) (numeral_of 10 (last_part text)) → IsRead (is_misnumbered text) (number_of text) Plain
unfolding is_misnumbered number_of numeral_of
other_plain text differs is =
    let other : eqb (length (last_part text)) 5 ≡ false = ne_eqb (length (last_part text)) 5 differs in
    elim (cases_Bool (is_numeral 10 (last_part text))) [
      | inl digits ↦ let some = rw digits at is in cc
      | inr others ↦ (rw others refl, rw other refl)
    ]

-- what begins with no tag's front has no number and isn't malformed
pub no_number : (bytes : List ℕ) → begins bytes tag_front ≡ false → number_at bytes ≡ None
unfolding number_at tag_at
no_number bytes unlike = rw unlike refl

pub not_malformed : (bytes : List ℕ) → begins bytes tag_front ≡ false → is_malformed bytes ≡ false
unfolding is_malformed
not_malformed bytes unlike = rw unlike refl

pub tag_read : (bytes text : List ℕ) (front : Front) → begins bytes tag_front ≡ true → Some text ≡ tag_at bytes → IsRead (is_misnumbered text) (number_of text) front
    → IsRead (is_malformed bytes) (number_at bytes) front
unfolding is_malformed number_at
tag_read bytes text front begun is read = rw (begun, sym is) read

pub no_tag_read : (bytes : List ℕ) → begins bytes tag_front ≡ true → None ≡ tag_at bytes → is_malformed bytes ≡ true
unfolding is_malformed
no_tag_read bytes begun is = rw (begun, sym is) refl

-- the numbers from a place on
pub numbers_step : (text : List ℕ) (at step : ℕ) → at + step < length text → ((k : ℕ) → k < step → begins (drop k (drop at text)) tag_front ≡ false)
    → numbers_of (drop at text) ≡ cons_option (number_at (drop (at + step) text)) (numbers_of (drop (at + step + 1) text))
unfolding numbers_of
numbers_step text at step within none = found_from number_at tag_front no_number text at step within none

module _ (text : List ℕ) (at step start all : ℕ) (within : at + step < length text) (none : (k : ℕ) → k < step → begins (drop k (drop at text)) tag_front ≡ false) (so_far : fold past start (numbers_of (drop at text)) ≡ all) where
  read_on : (number : Option ℕ) → number_at (drop (at + step) text) ≡ number → fold past start (cons_option number (numbers_of (drop (at + step + 1) text))) ≡ all
  read_on number is =
      ap (λ (o : Option ℕ). fold past start (cons_option o (numbers_of (drop (at + step + 1) text)))) (sym is)
      ∙ ap (fold past start) (sym (numbers_step text at step within none)) ∙ so_far

  pub plain_on : number_at (drop (at + step) text) ≡ None → fold past start (numbers_of (drop (at + step + 1) text)) ≡ all
  plain_on is = read_on None is

  pub numbered_on : (number : ℕ) → number_at (drop (at + step) text) ≡ Some number → fold past (max start (number + 1)) (numbers_of (drop (at + step + 1) text)) ≡ all
  numbered_on number is = read_on (Some number) is

pub numbers_end : (text : List ℕ) → ((k : ℕ) → begins (drop k text) tag_front ≡ false) → numbers_of text ≡ []
unfolding numbers_of
numbers_end text none = none_found number_at tag_front no_number text none

-- no place before the one found is malformed
pub well_before : (text : List ℕ) (at step : ℕ) → ((k : ℕ) → k < at → is_malformed (drop k text) ≡ false)
    → ((k : ℕ) → k < step → begins (drop k (drop at text)) tag_front ≡ false) → (k : ℕ) → k < at + step → is_malformed (drop k text) ≡ false
well_before text at step well none k less =
    elim (cases_lt k at) [
      | inl before ↦ well k before
      | inr behind ↦
          let same : at + (k - at) ≡ k = omega arith in
          let here : drop (k - at) (drop at text) ≡ drop k text = drop-drop (k - at) at text ∙ ap (λ (n : ℕ). drop n text) same in
          not_malformed (drop k text) (ap (λ (bytes : List ℕ). begins bytes tag_front) (sym here) ∙ none (k - at) (omega arith))
    ]

pub well_more : (text : List ℕ) (place : ℕ) → ((k : ℕ) → k < place → is_malformed (drop k text) ≡ false) → is_malformed (drop place text) ≡ false
    → (k : ℕ) → k < place + 1 → is_malformed (drop k text) ≡ false
well_more text place well here k less =
    elim (cases_lt k place) [
      | inl before ↦ well k before
      | inr behind ↦ let same : k ≡ place = omega arith in rw same here
    ]

pub none_malformed : (text : List ℕ) → ((k : ℕ) → is_malformed (drop k text) ≡ false) → has_malformed text ≡ false
unfolding has_malformed
none_malformed [] none = refl
none_malformed (b ∷ bs) none = rw (none 0) (none_malformed bs (λ k. none (suc k)))

pub well_all : (text : List ℕ) (at : ℕ) → ((k : ℕ) → k < at → is_malformed (drop k text) ≡ false) → ((k : ℕ) → begins (drop k (drop at text)) tag_front ≡ false)
    → has_malformed text ≡ false
well_all text at well none =
    none_malformed text (λ k. well_before text at (k + 1) well (λ j less. none j) k (omega arith))

-- one file more
pub start_more : (first : ℕ) (files : List (List ℕ)) (i : ℕ) (d : List ℕ) → i < length files
    → start_of first (take (i + 1) files) ≡ fold past (start_of first (take i files)) (numbers_of (get_or files i d))
unfolding start_of
start_more first files i d within =
    let file = get_or files i d in
    ap (λ (some : List (List ℕ)). fold past first (flat_map numbers_of some)) (take_more files i d within)
    ∙ ap (fold past first) (flat_map-append numbers_of (take i files) (file ∷ []) ∙ ap (λ (rest : List ℕ). flat_map numbers_of (take i files) ++ rest) (append-nil (numbers_of file)))
    ∙ fold-append past first (flat_map numbers_of (take i files)) (numbers_of file)

pub start_none : (first : ℕ) → start_of first [] ≡ first
unfolding start_of
start_none first = refl

pub well_more_files : (files : List (List ℕ)) (i : ℕ) (d : List ℕ) → i < length files → list_any has_malformed (take i files) ≡ false → has_malformed (get_or files i d) ≡ false
    → list_any has_malformed (take (i + 1) files) ≡ false
well_more_files files i d within well here = list_any_more has_malformed files i d within ∙ rw (well, here) refl
