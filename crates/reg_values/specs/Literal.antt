-- The literals of the registry: numbers as text, in base ten or 16, with a sign or without.
use Rattle.std.specs.Prelude.{ℕ, ◌-◌, ◌^◌, true, false, ℤ, pos, neg_ℤ, List, drop, codes, Option, None, Some, option_map, Result, Err, if◌then◌else◌}
use Rattle.vkb_bytes.specs.Bytes.{begins}
use Rattle.vkb_bytes.specs.Numbers.{numeral_of}
use Rattle.reg_values.specs.declared.ValueFault.{ValueFault}
use Rattle.reg_values.specs.declared.ValueFault.TheVariants.{Literal}
use Rattle.reg_values.specs.Values.{in_range, signed}

-- the number that a text writes without a sign: in base 16 after `0x`, else in base ten
unfoldable pub magnitude_of : List ℕ → Option ℕ
magnitude_of text = if begins text (codes "0x") then numeral_of 16 (drop 2 text) else numeral_of 10 text

-- the value of a literal, with a `-` before it or without: none where the text is no literal
unfoldable pub literal_of : List ℕ → Option ℤ
literal_of text =
    if begins text (codes "-") then option_map (signed true) (magnitude_of (drop 1 text))
    else option_map (signed false) (magnitude_of text)

-- the answer for a literal's value, if there is one: `Literal` where there is none, and `Range` where it isn't a number of 64
-- bits with a sign or without
abbrev pub answer_of : Option ℤ → Result ℤ ValueFault
answer_of None = Err Literal
answer_of (Some value) = in_range (neg_ℤ (pos (2 ^ 63))) (pos (2 ^ 64 - 1)) value

-- the answer for a text
unfoldable pub literal_value : List ℕ → Result ℤ ValueFault
literal_value text = answer_of (literal_of text)
