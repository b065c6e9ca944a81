-- The first parameter of a statement.
use Rattle.std.proofs.Common.{◌≡◌, ℕ, ◌+◌, ◌<◌, true, false, eqb, List, Option, Some, None, length, drop, refl, ap, ◌∙◌, codes}
use Rattle.std.proofs.lemmas.Bool.{ne_eqb}
use Rattle.std.specs.Prelude.{unwrap_or}
use Rattle.std.specs.List.{cons_option, filter_map}
use Rattle.vkb_bytes.specs.Bytes.{begins}
use Rattle.vkb_bytes.specs.First.{first_of}
use Rattle.vu_tags.specs.Tags.{tails}
use Rattle.vu_tags.specs.Tagged.{parameter_at, parameter_front, parameter_of, word_run}
use Rattle.vu_tags.proofs.PlaceLemmas.{found_from, none_found}

no_parameter : (bytes : List ℕ) → begins bytes parameter_front ≡ false → parameter_at bytes ≡ None
unfolding parameter_at
no_parameter bytes unlike = rw unlike refl

empty_parameter : (bytes : List ℕ) → length (word_run (drop (length parameter_front) bytes)) ≡ 0 → begins bytes parameter_front ≡ true → parameter_at bytes ≡ None
unfolding parameter_at
empty_parameter bytes none begun = rw (begun, none) refl

some_parameter : (bytes : List ℕ) → (length (word_run (drop (length parameter_front) bytes)) ≡ 0 → ⊥) → begins bytes parameter_front ≡ true
    → parameter_at bytes ≡ Some (word_run (drop (length parameter_front) bytes))
unfolding parameter_at
some_parameter bytes some begun =
    let differs : eqb (length (word_run (drop (length parameter_front) bytes))) 0 ≡ false = ne_eqb _ _ some in
    rw (begun, differs) refl

module _ (text : List ℕ) (at step : ℕ) (within : at + step < length text) (none : (k : ℕ) → k < step → begins (drop k (drop at text)) parameter_front ≡ false)
    (begun : begins (drop (at + step) text) parameter_front ≡ true) where
  abbrev word : List ℕ
  word = word_run (drop (length parameter_front) (drop (at + step) text))

  read_on : (found : Option (List ℕ)) → parameter_at (drop (at + step) text) ≡ found
      → parameter_of (drop at text) ≡ unwrap_or (first_of (cons_option found (filter_map parameter_at (tails (drop (at + step + 1) text))))) (codes "None")
  unfolding parameter_of
  read_on found is =
      ap (λ (all : List (List ℕ)). unwrap_or (first_of all) (codes "None")) (found_from parameter_at parameter_front no_parameter text at step within none)
      ∙ ap (λ (o : Option (List ℕ)). unwrap_or (first_of (cons_option o (filter_map parameter_at (tails (drop (at + step + 1) text))))) (codes "None")) is

  pub parameter_on : length word ≡ 0 → parameter_of (drop at text) ≡ parameter_of (drop (at + step + 1) text)
  unfolding parameter_of
  parameter_on empty = read_on None (empty_parameter _ empty begun)

  pub parameter_found : (length word ≡ 0 → ⊥) → parameter_of (drop at text) ≡ word
  parameter_found some = read_on (Some word) (some_parameter _ some begun)

pub parameter_none : (text : List ℕ) → ((k : ℕ) → begins (drop k text) parameter_front ≡ false) → parameter_of text ≡ codes "None"
unfolding parameter_of
parameter_none text none = ap (λ (all : List (List ℕ)). unwrap_or (first_of all) (codes "None")) (none_found parameter_at parameter_front no_parameter text none)
