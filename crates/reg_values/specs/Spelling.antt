-- What a literal is in the words of the rule, whatever computes its value: how it is spelled, sign, base and digits.
use Rattle.std.specs.Prelude.{◌≡◌, ℕ, ◌⊎◌, ℤ, pos, neg_ℤ, List, ◌++◌, codes}
use Rattle.vkb_bytes.specs.Numbers.{IsDecimalDigit, IsHexadecimalDigit, IsNumeral}

-- the text is decimal digits, or `0x` and hexadecimal digits
abbrev pub IsMagnitude : List ℕ → ℕ → Type 0
IsMagnitude text number =
    IsNumeral IsDecimalDigit 10 text number
    ⊎ ((digits : List ℕ) × (text ≡ codes "0x" ++ digits) × IsNumeral IsHexadecimalDigit 16 digits number)

-- the text is these alone, or with a `-` before them
abbrev pub IsLiteral : List ℕ → ℤ → Type 0
IsLiteral text value =
    ((number : ℕ) × IsMagnitude text number × (value ≡ pos number))
    ⊎ ((magnitude : List ℕ) × (number : ℕ) × (text ≡ codes "-" ++ magnitude) × IsMagnitude magnitude number
    × (value ≡ neg_ℤ (pos number)))
