-- A text has a number exactly where its digits write it.
use Rattle.std.proofs.Common.{◌≡◌, ◌⊎◌, ℕ, ◌<◌, Bool, true, false, cond, ltb, List, [], ◌∷◌, length, map, None, Some, refl, sym, ap, ◌∙◌, inl, inr, arith}
use Rattle.std.specs.Char.{digit_value}
use Rattle.std.specs.List.{AllZip, list_all}
use Rattle.std.proofs.lemmas.Bool.{cond-true, and_parts, and_from, ltb-true, lt-ltb}
use Rattle.vkb_bytes.specs.Numbers.{number_of, is_digit_in, is_numeral, numeral_of, IsDecimalDigit, IsHexadecimalDigit, IsNumeral}
use Rattle.vkb_bytes.proofs.DigitLemmas.{decimal_value, decimal_place, hexadecimal_value, hexadecimal_place}

-- a choice that came out as z
picked : {A : Type 0} (b : Bool) (x y z : A) → cond b x y ≡ z → ((b ≡ true) × (x ≡ z)) ⊎ ((b ≡ false) × (y ≡ z))
picked true x y z e = inl (refl, e)
picked false x y z e = inr (refl, e)

-- the digits of a base, as the rule and as the definition have them
module _ (IsDigit : ℕ → ℕ → Type 0) (base : ℕ) (value : (b d : ℕ) → IsDigit b d → (digit_value b ≡ d) × (d < base)) (place : (b : ℕ) → digit_value b < base → IsDigit b (digit_value b)) where
  zip_from : (text : List ℕ) → list_all (is_digit_in base) text ≡ true → AllZip IsDigit text (map digit_value text)
  zip_from [] h = tt
  zip_from (b ∷ text) h =
      let parts = and_parts (is_digit_in base b) (list_all (is_digit_in base) text) h in
      (place b (ltb-true _ base parts.0), zip_from text parts.1)

  from_zip : (text digits : List ℕ) → AllZip IsDigit text digits → (list_all (is_digit_in base) text ≡ true) × (map digit_value text ≡ digits)
  from_zip [] [] h = (refl, refl)
  from_zip [] (d ∷ digits) h = absurd h
  from_zip (b ∷ text) [] h = absurd h
  from_zip (b ∷ text) (d ∷ digits) h =
      let first = value b d h.0 in
      let later = from_zip text digits h.1 in
      let worth = first.0 in
      let rest = later.1 in
      (and_from _ _ (lt-ltb _ base (omega (arith, first.0, first.1))) later.0, cc)

  pub numeral_from : (text : List ℕ) (number : ℕ) → numeral_of base text ≡ Some number → IsNumeral IsDigit base text number
  unfolding numeral_of
  numeral_from text number e =
      elim (picked (is_numeral base text) (Some (number_of base (map digit_value text))) None (Some number) e) [
        | inl h ↦
            let parts = and_parts (ltb 0 (length text)) (list_all (is_digit_in base) text) h.0 in
            let same = h.1 in
            record {
              digits = map digit_value text;
              has_digits = ltb-true 0 _ parts.0;
              are_digits = zip_from text parts.1;
              number_is = cc;
            }
        | inr h ↦ let wrong = h.1 in cc
      ]

  pub from_numeral : (text : List ℕ) (number : ℕ) → IsNumeral IsDigit base text number → numeral_of base text ≡ Some number
  unfolding numeral_of
  from_numeral text number h =
      let zipped = from_zip text h.digits h.are_digits in
      cond-true (is_numeral base text) _ _ (and_from _ _ (lt-ltb 0 _ h.has_digits) zipped.0)
      ∙ ap (λ ds. Some (number_of base ds)) zipped.1 ∙ ap Some (sym h.number_is)

pub decimal_from : (text : List ℕ) (number : ℕ) → numeral_of 10 text ≡ Some number → IsNumeral IsDecimalDigit 10 text number
decimal_from = numeral_from IsDecimalDigit 10 decimal_value decimal_place

pub from_decimal : (text : List ℕ) (number : ℕ) → IsNumeral IsDecimalDigit 10 text number → numeral_of 10 text ≡ Some number
from_decimal = from_numeral IsDecimalDigit 10 decimal_value decimal_place

pub hexadecimal_from : (text : List ℕ) (number : ℕ) → numeral_of 16 text ≡ Some number → IsNumeral IsHexadecimalDigit 16 text number
hexadecimal_from = numeral_from IsHexadecimalDigit 16 hexadecimal_value hexadecimal_place

pub from_hexadecimal : (text : List ℕ) (number : ℕ) → IsNumeral IsHexadecimalDigit 16 text number → numeral_of 16 text ≡ Some number
from_hexadecimal = from_numeral IsHexadecimalDigit 16 hexadecimal_value hexadecimal_place
