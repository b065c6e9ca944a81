-- Numbers as digits write them, in base ten or 16.
use Rattle.std.specs.Prelude.{◌≡◌, ℕ, ◌+◌, ◌*◌, ◌^◌, ◌<◌, ◌⊎◌, Bool, ◌&&◌, nat_lt, nat_le, List, [], ◌∷◌, length, map, codes, Option, None, Some, slice_get, if◌then◌else◌}
use Rattle.std.specs.Char.{digit_value}
use Rattle.std.specs.List.{AllZip, list_all}

-- the byte is a digit of the base: `digit_value` has 0 to 9 for the digits, 10 on for the letters of either case, and 36 else
abbrev pub is_digit_in : ℕ → ℕ → Bool
is_digit_in base byte = nat_lt (digit_value byte) base

-- the number of these digits in a base: each counts as often as the base's power of how many stand after it
abbrev pub number_of : ℕ → List ℕ → ℕ
number_of base [] = 0
number_of base (digit ∷ after) = digit * base ^ length after + number_of base after

-- the number that a text of digits writes in a base
abbrev pub number_in : ℕ → List ℕ → ℕ
number_in base text = number_of base (map digit_value text)

-- one digit of the base or more, and nothing else
abbrev pub is_numeral : ℕ → List ℕ → Bool
is_numeral base text = nat_lt 0 (length text) && list_all (is_digit_in base) text

-- the number that a text writes in a base, where it is digits alone
unfoldable pub numeral_of : ℕ → List ℕ → Option ℕ
numeral_of base text = if is_numeral base text then Some (number_in base text) else None

-- the number that one to nine decimal digits write
unfoldable pub short_numeral_of : List ℕ → Option ℕ
short_numeral_of text = if nat_le (length text) 9 then numeral_of 10 text else None

-- the byte is the digit of that number in base ten
abbrev pub IsDecimalDigit : ℕ → ℕ → Type 0
IsDecimalDigit byte number = slice_get (codes "0123456789") number ≡ Some byte

-- the byte is the digit of that number in base 16, of either case
abbrev pub IsHexadecimalDigit : ℕ → ℕ → Type 0
IsHexadecimalDigit byte number =
    (slice_get (codes "0123456789abcdef") number ≡ Some byte) ⊎ (slice_get (codes "0123456789ABCDEF") number ≡ Some byte)

-- the text is one digit or more, and the number is what they write in the base
pub record IsNumeral (IsDigit : ℕ → ℕ → Type 0) (base : ℕ) (text : List ℕ) (number : ℕ) : Type 0 where
  pub digits : List ℕ
  pub has_digits : 0 < length text
  pub are_digits : AllZip IsDigit text digits
  pub number_is : number ≡ number_of base digits
