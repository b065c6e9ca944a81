-- How far a reference was read. No public contract names it.
use Rattle.std.specs.Prelude.{ℕ, ◌+◌, ◌*◌, Bool, ◌||◌, ◌&&◌, ◌==◌, nat_le, List, [], ◌∷◌, codes, if◌then◌else◌}
use Rattle.std.specs.Char.{digit_value}
use Rattle.std.specs.Str.{bytes_eq}
use Rattle.vkb_bytes.specs.Bytes.{begins, is_digit}
use Rattle.vkb_bytes.specs.Numbers.{is_digit_in}
use Rattle.reg_reader.specs.declared.reference.Progress.{Progress}
use Rattle.reg_reader.specs.declared.reference.Progress.TheVariants as progress

-- a reference of this value ends, if it may have it
abbrev pub number_end : ℕ → ℕ → Progress
number_end byte value = if byte == 59 && (nat_le 1 value && nat_le value 127) then progress.Whole value else progress.Wrong

abbrev pub partial_if : Bool → Progress
partial_if good = if good then progress.Partial else progress.Wrong

-- after `&#x`
abbrev pub in_hexadecimal : List ℕ → Progress
in_hexadecimal [] = progress.Partial
in_hexadecimal (a ∷ []) = partial_if (is_digit_in 16 a)
in_hexadecimal (a ∷ b ∷ []) = if is_digit_in 16 a && is_digit_in 16 b then partial_if (let n = 16 * digit_value a + digit_value b in nat_le 1 n && nat_le n 127) else (if is_digit_in 16 a then number_end b (digit_value a) else progress.Wrong)
in_hexadecimal (a ∷ b ∷ c ∷ []) = if is_digit_in 16 a && is_digit_in 16 b then number_end c (16 * digit_value a + digit_value b) else progress.Wrong
in_hexadecimal (a ∷ b ∷ c ∷ d ∷ more) = progress.Wrong

-- after `&#`, with a digit
abbrev pub in_decimal : List ℕ → Progress
in_decimal [] = progress.Partial
in_decimal (a ∷ []) = partial_if (is_digit a)
in_decimal (a ∷ b ∷ []) = if is_digit a then (if is_digit b then progress.Partial else number_end b (digit_value a)) else progress.Wrong
in_decimal (a ∷ b ∷ c ∷ []) =
    if is_digit a && is_digit b
    then (if is_digit c then partial_if (let n = 10 * (10 * digit_value a + digit_value b) + digit_value c in nat_le 1 n && nat_le n 127) else number_end c (10 * digit_value a + digit_value b))
    else progress.Wrong
in_decimal (a ∷ b ∷ c ∷ d ∷ []) =
    if is_digit a && (is_digit b && is_digit c) then number_end d (10 * (10 * digit_value a + digit_value b) + digit_value c) else progress.Wrong
in_decimal (a ∷ b ∷ c ∷ d ∷ e ∷ more) = progress.Wrong

abbrev pub in_number : List ℕ → Progress
in_number [] = progress.Partial
in_number (a ∷ more) = if a == 120 then in_hexadecimal more else in_decimal (a ∷ more)

-- the text begins one of the names
abbrev pub begins_named : List ℕ → Bool
begins_named text = begins (codes "&lt;") text || begins (codes "&gt;") text || begins (codes "&amp;") text || begins (codes "&quot;") text || begins (codes "&apos;") text

abbrev pub in_named : List ℕ → Progress
in_named text =
    if bytes_eq text (codes "&lt;") then progress.Whole 60
    else (if bytes_eq text (codes "&gt;") then progress.Whole 62
    else (if bytes_eq text (codes "&amp;") then progress.Whole 38
    else (if bytes_eq text (codes "&quot;") then progress.Whole 34
    else (if bytes_eq text (codes "&apos;") then progress.Whole 39
    else partial_if (begins_named text)))))

-- after `&#`, and from `&` on
abbrev pub progress_of : List ℕ → Progress
progress_of (a ∷ b ∷ more) = if a == 38 && b == 35 then in_number more else in_named (a ∷ b ∷ more)
progress_of text = in_named text
