-- The numbers of values as C code has them. That a list has decimal numbers and a mask hexadecimal ones is of `vulkan_core.h`.
use Rattle.std.specs.Prelude.{ℕ, ◌-◌, ◌^◌, ◌==◌, nat_lt, ℤ, pos, negsuc, true, List, ◌++◌, length, replicate, codes, if◌then◌else◌}
use Rattle.std.specs.Fmt.{digits, decimal, signed_decimal}
use Rattle.reg_registry.specs.declared.kinds.Shape.{Shape}
use Rattle.reg_registry.specs.declared.kinds.Shape.TheVariants as shape

-- zeros before digits that are fewer than eight
abbrev pub eight_at_least : List ℕ → List ℕ
eight_at_least digits = replicate (8 - length digits) 48 ++ digits

-- `0`, or `0x` and hexadecimal digits in upper case. What isn't a number of 64 bits without sign is no number of a mask: it stands in decimal.
abbrev pub mask_number : ℤ → List ℕ
mask_number (pos n) =
    if n == 0 then codes "0" else (if nat_lt n (2 ^ 64) then codes "0x" ++ eight_at_least (digits 16 true n) else decimal n)
mask_number (negsuc n) = signed_decimal (negsuc n)

-- the number of a value of an enum type of this shape
abbrev pub number_text : Shape → ℤ → List ℕ
number_text shape.Mask32 number = mask_number number
number_text shape.Mask64 number = mask_number number ++ codes "ULL"
number_text _ number = signed_decimal number
