-- The values that the registry gives by an extension's number and an offset, or by the position of a bit.
use Rattle.std.specs.Prelude.{ℕ, ◌+◌, ◌-◌, ◌*◌, ◌^◌, ◌⊎◌, Bool, ◌||◌, ◌==◌, nat_le, nat_lt, ℤ, pos, neg_ℤ, ◌<ℤ◌, int_lt, Result, Ok, Err, if◌then◌else◌}
use Rattle.reg_values.specs.declared.ValueFault.{ValueFault}
use Rattle.reg_values.specs.declared.ValueFault.TheVariants.{Range}

-- the value is below the least or above the greatest
abbrev pub IsOutside : ℤ → ℤ → ℤ → Type 0
IsOutside least greatest value = (value <ℤ least) ⊎ (greatest <ℤ value)

-- the value, or a fault where it is below the least or above the greatest
abbrev pub in_range : ℤ → ℤ → ℤ → Result ℤ ValueFault
in_range least greatest value = if int_lt value least || int_lt greatest value then Err Range else Ok value

-- a number with its sign
abbrev pub signed : Bool → ℕ → ℤ
signed negative number = if negative then neg_ℤ (pos number) else pos number

-- the value of an offset: each extension has a thousand of them from 1,000,000,000 on, and extensions are counted from 1
abbrev pub offset_number : ℕ → ℕ → Bool → ℤ
offset_number extension offset negative = signed negative (1000000000 + (extension - 1) * 1000 + offset)

-- the same where there is such an extension and such an offset of it, and the value is one of 32 bits with a sign
unfoldable pub offset_value : ℕ → ℕ → Bool → Result ℤ ValueFault
offset_value extension offset negative =
    if extension == 0 || nat_lt 999 offset then Err Range
    else in_range (neg_ℤ (pos 2147483648)) (pos 2147483647) (offset_number extension offset negative)

-- the value of a bit, where the width has it
unfoldable pub bit_value : ℕ → ℕ → Result ℕ ValueFault
bit_value position width = if nat_le width position then Err Range else Ok (2 ^ position)
