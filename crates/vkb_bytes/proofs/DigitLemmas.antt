-- A byte is worth what its place in the list of digits says.
use Rattle.std.proofs.Common.{◌≡◌, ◌⊎◌, ℕ, ◌+◌, ◌<◌, cond, ltb, map, Some, slice_get, sym, ap, ◌∙◌, inl, inr, arith}
use Rattle.std.specs.Char.{digit_value, digit_char}
use Rattle.std.specs.List.{range_with_len}
use Rattle.std.proofs.lemmas.Bool.Decides.{nat_tests}
use Rattle.std.proofs.lemmas.List.FromFn.{length-map-range_with_len, get_or-map-range_with_len}
use Rattle.std.proofs.lemmas.Option.{slice_get-get_or, slice_get_within}
use Rattle.vkb_bytes.specs.Numbers.{IsDecimalDigit, IsHexadecimalDigit}

-- the digits of base 16 in upper case
abbrev upper_char : ℕ → ℕ
upper_char d = cond (ltb d 10) (48 + d) (55 + d)

-- a list that a function of the place makes
to_place : (f : ℕ → ℕ) (n k : ℕ) → k < n → slice_get (map f (range_with_len 0 n)) k ≡ Some (f k)
to_place f n k h =
    slice_get-get_or (map f (range_with_len 0 n)) k 0 (omega (arith, length-map-range_with_len f 0 n))
    ∙ ap Some (get_or-map-range_with_len f 0 n k k 0 h (omega arith))

from_place : (f : ℕ → ℕ) (n b k : ℕ) → slice_get (map f (range_with_len 0 n)) k ≡ Some b → (k < n) × (b ≡ f k)
from_place f n b k e =
    let within : k < n = omega (arith, slice_get_within _ k b e, length-map-range_with_len f 0 n) in
    let same = to_place f n k within in
    (within, cc)

lower_value : (d : ℕ) → d < 16 → digit_value (digit_char d) ≡ d
lower_value d h = grind (arith, nat_tests)

upper_value : (d : ℕ) → d < 16 → digit_value (upper_char d) ≡ d
upper_value d h = grind (arith, nat_tests)

decimal_char : (b : ℕ) → digit_value b < 10 → b ≡ digit_char (digit_value b)
decimal_char b h = grind (arith, nat_tests)

hexadecimal_char : (b : ℕ) → digit_value b < 16 → (b ≡ digit_char (digit_value b)) ⊎ (b ≡ upper_char (digit_value b))
hexadecimal_char b h = grind (arith, nat_tests)

pub decimal_value : (b d : ℕ) → IsDecimalDigit b d → (digit_value b ≡ d) × (d < 10)
decimal_value b d h =
    let place = from_place digit_char 10 b d h in
    (ap digit_value place.1 ∙ lower_value d (omega (arith, place.0)), place.0)

pub decimal_place : (b : ℕ) → digit_value b < 10 → IsDecimalDigit b (digit_value b)
decimal_place b h = to_place digit_char 10 (digit_value b) h ∙ ap Some (sym (decimal_char b h))

pub hexadecimal_value : (b d : ℕ) → IsHexadecimalDigit b d → (digit_value b ≡ d) × (d < 16)
hexadecimal_value b d (inl h) =
    let place = from_place digit_char 16 b d h in
    (ap digit_value place.1 ∙ lower_value d place.0, place.0)
hexadecimal_value b d (inr h) =
    let place = from_place upper_char 16 b d h in
    (ap digit_value place.1 ∙ upper_value d place.0, place.0)

pub hexadecimal_place : (b : ℕ) → digit_value b < 16 → IsHexadecimalDigit b (digit_value b)
hexadecimal_place b h =
    elim (hexadecimal_char b h) [
      | inl lower ↦ inl (to_place digit_char 16 (digit_value b) h ∙ ap Some (sym lower))
      | inr upper ↦ inr (to_place upper_char 16 (digit_value b) h ∙ ap Some (sym upper))
    ]
