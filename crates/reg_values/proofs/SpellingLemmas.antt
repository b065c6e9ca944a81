-- A text has a value exactly where it spells it.
use Rattle.std.proofs.Common.{◌≡◌, ◌⊎◌, ◌↔◌, ℕ, Bool, true, false, cond, List, ◌++◌, length, drop, Option, None, Some, ℤ, refl, sym, ap, ◌∙◌, inl, inr, codes}
use Rattle.std.specs.Prelude.{option_map}
use Rattle.std.proofs.lemmas.Bool.{cases_Bool, cond-true, cond-false, and_right}
use Rattle.std.proofs.lemmas.Bool.Decides.{Decides-eqb}
use Rattle.std.proofs.lemmas.Slice.Eq.{starts_is}
use Rattle.vkb_bytes.specs.Bytes.{begins}
use Rattle.vkb_bytes.specs.Numbers.{is_numeral, numeral_of, IsDecimalDigit, IsHexadecimalDigit, IsNumeral}
use Rattle.reg_values.specs.Literal.{magnitude_of, literal_of}
use Rattle.reg_values.specs.Values.{signed}
use Rattle.reg_values.specs.Spelling.{IsMagnitude, IsLiteral}

-- a choice that came out as z
picked : {A : Type 0} (b : Bool) (x y z : A) → cond b x y ≡ z → ((b ≡ true) × (x ≡ z)) ⊎ ((b ≡ false) × (y ≡ z))
picked true x y z e = inl (refl, e)
picked false x y z e = inr (refl, e)

begins_is : (text bytes : List ℕ) → begins text bytes ≡ true → text ≡ bytes ++ drop (length bytes) text
begins_is text bytes e = (starts_is Decides-eqb text bytes _ refl).0 e

is_begun : (text bytes rest : List ℕ) → text ≡ bytes ++ rest → begins text bytes ≡ true
is_begun text bytes rest e = (starts_is Decides-eqb text bytes _ refl).1 rest e

-- a text that begins with `0x` or `-` is no numeral of base ten
no_numeral : (rest : List ℕ) → numeral_of 10 (codes "0x" ++ rest) ≡ None
unfolding numeral_of
no_numeral rest = cond-false (is_numeral 10 (codes "0x" ++ rest)) _ _ (and_right _ _ refl)

no_magnitude : (rest : List ℕ) → magnitude_of (codes "-" ++ rest) ≡ None
unfolding magnitude_of numeral_of
no_magnitude rest = cond-false (is_numeral 10 (codes "-" ++ rest)) _ _ (and_right _ _ refl)

-- an optional number's value
mapped : (f : ℕ → ℤ) (o : Option ℕ) (value : ℤ) → option_map f o ≡ Some value → (number : ℕ) × (o ≡ Some number) × (value ≡ f number)
mapped f None value e = cc
mapped f (Some number) value e = (number, refl, cc)

-- numerals are as their rule has them
module _ (decimal : (text : List ℕ) (number : ℕ) → (numeral_of 10 text ≡ Some number) ↔ IsNumeral IsDecimalDigit 10 text number) (hexadecimal : (text : List ℕ) (number : ℕ) → (numeral_of 16 text ≡ Some number) ↔ IsNumeral IsHexadecimalDigit 16 text number) where
  magnitude_from : (text : List ℕ) (number : ℕ) → magnitude_of text ≡ Some number → IsMagnitude text number
  unfolding magnitude_of
  magnitude_from text number e =
      elim (picked (begins text (codes "0x")) (numeral_of 16 (drop 2 text)) (numeral_of 10 text) (Some number) e) [
        | inl h ↦
            inr (drop 2 text, begins_is text (codes "0x") h.0, (hexadecimal (drop 2 text) number).0 h.1)
        | inr h ↦ inl ((decimal text number).0 h.1)
      ]

  from_magnitude : (text : List ℕ) (number : ℕ) → IsMagnitude text number → magnitude_of text ≡ Some number
  unfolding magnitude_of
  from_magnitude text number (inl h) =
      let numeral = (decimal text number).1 h in
      elim (cases_Bool (begins text (codes "0x"))) [
        | inl prefixed ↦
            let split = begins_is text (codes "0x") prefixed in
            let none = no_numeral (drop 2 text) in
            cc (ap (numeral_of 10) split)
        | inr plain ↦ cond-false (begins text (codes "0x")) _ _ plain ∙ numeral
      ]
  from_magnitude text number (inr h) =
      cond-true (begins text (codes "0x")) _ _ (is_begun text (codes "0x") h.0 h.1)
      ∙ ap (λ xs. numeral_of 16 (drop 2 xs)) h.1
      ∙ (hexadecimal h.0 number).1 h.2

  pub literal_from : (text : List ℕ) (value : ℤ) → literal_of text ≡ Some value → IsLiteral text value
  unfolding literal_of
  literal_from text value e =
      elim (picked (begins text (codes "-")) (option_map (signed true) (magnitude_of (drop 1 text))) (option_map (signed false) (magnitude_of text)) (Some value) e) [
        | inl h ↦
            let found = mapped (signed true) (magnitude_of (drop 1 text)) value h.1 in
            inr (drop 1 text, found.0, begins_is text (codes "-") h.0, magnitude_from (drop 1 text) found.0 found.1, found.2)
        | inr h ↦
            let found = mapped (signed false) (magnitude_of text) value h.1 in
            inl (found.0, magnitude_from text found.0 found.1, found.2)
      ]

  pub from_literal : (text : List ℕ) (value : ℤ) → IsLiteral text value → literal_of text ≡ Some value
  unfolding literal_of
  from_literal text value (inl h) =
      let magnitude = from_magnitude text h.0 h.1 in
      elim (cases_Bool (begins text (codes "-"))) [
        | inl negative ↦
            let split = begins_is text (codes "-") negative in
            let none = no_magnitude (drop 1 text) in
            cc (ap magnitude_of split)
        | inr plain ↦
            cond-false (begins text (codes "-")) _ _ plain ∙ ap (option_map (signed false)) magnitude ∙ ap Some (sym h.2)
      ]
  from_literal text value (inr h) =
      cond-true (begins text (codes "-")) _ _ (is_begun text (codes "-") h.0 h.2)
      ∙ ap (λ xs. option_map (signed true) (magnitude_of (drop 1 xs))) h.2
      ∙ ap (option_map (signed true)) (from_magnitude h.0 h.1 h.3)
      ∙ ap Some (sym h.4)

  pub one_value : (text : List ℕ) (value other : ℤ) → IsLiteral text value → IsLiteral text other → value ≡ other
  one_value text value other h k =
      let first = from_literal text value h in
      let second = from_literal text other k in
      cc
