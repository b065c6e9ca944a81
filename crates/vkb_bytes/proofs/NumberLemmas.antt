-- The number of a front of the digits, byte by byte, also where it is cut off at a greatest number.
use Rattle.std.proofs.Common.{◌≡◌, ℕ, suc, ◌+◌, ◌-◌, ◌*◌, ◌^◌, ◌<◌, ◌≤◌, min, true, Option, None, Some, List, [], ◌∷◌, ◌++◌, length, map, get_or, take, refl, sym, ap, ◌∙◌, arith, length-append, inl, inr}
use Rattle.std.specs.Prelude.{option_map, nat_le, nat_lt}
use Rattle.std.specs.Char.{digit_value}
use Rattle.std.specs.List.{list_all}
use Rattle.std.proofs.Math.Nat.{pow-zero, pow-suc, pow-le-pow_right, mul-le-mul_right, le-mul_of_pos_right}
use Rattle.std.proofs.lemmas.Bool.{cases_lt, cond_both, cond-true, and_parts, ltb-true, le-leb}
use Rattle.std.proofs.lemmas.List.{take_more, map-append, length-map}
use Rattle.vkb_bytes.specs.Numbers.{number_of, number_in, is_digit_in, is_numeral, numeral_of, short_numeral_of}

number_push : (base : ℕ) (ds : List ℕ) (d : ℕ) → number_of base (ds ++ d ∷ []) ≡ number_of base ds * base + d
number_push base [] d = rw pow-zero (grind arith)
number_push base (x ∷ ds) d =
    let len : length (ds ++ d ∷ []) ≡ suc (length ds) = omega (arith, length-append ds (d ∷ [])) in
    let power : base ^ length (ds ++ d ∷ []) ≡ base ^ length ds * base =
    ap (λ k. base ^ k) len ∙ pow-suc base (length ds) in
    rw (power, number_push base ds d) (omega arith)

-- one digit more
pub number_more : (base : ℕ) (worth : ℕ → ℕ) (bytes : List ℕ) (i : ℕ) → i < length bytes → number_of base (map worth (take (i + 1) bytes)) ≡ number_of base (map worth (take i bytes)) * base + worth (get_or bytes i 0)
number_more base worth bytes i h =
    ap (λ xs. number_of base (map worth xs)) (take_more bytes i 0 h)
    ∙ ap (number_of base) (map-append worth (take i bytes) (get_or bytes i 0 ∷ []))
    ∙ number_push base (map worth (take i bytes)) (worth (get_or bytes i 0))

-- to cut off on the way changes nothing
pub cut_more : (n base d most : ℕ) → 0 < base → min (min (min n most * base) most + d) most ≡ min (n * base + d) most
cut_more n base d most more =
    elim (cases_lt n most) [
      | inl low ↦
          let same : min n most ≡ n = omega arith in
          rw same (omega arith)
      | inr high ↦
          let same : min n most ≡ most = omega arith in
          let grown : most ≤ most * base = le-mul_of_pos_right most more in
          let above : most * base ≤ n * base = mul-le-mul_right base high in
          rw same (omega arith)
    ]

-- digits of a base write a number below its power
pub number_small : (base : ℕ) (text : List ℕ) → list_all (is_digit_in base) text ≡ true → number_in base text < base ^ length text
number_small base [] h = rw pow-zero (omega arith)
number_small base (b ∷ text) h =
    let parts = and_parts (is_digit_in base b) (list_all (is_digit_in base) text) h in
    let digit = ltb-true (digit_value b) base parts.0 in
    let later = number_small base text parts.1 in
    let counted = length-map text digit_value in
    let first : number_in base (b ∷ text) ≡ digit_value b * base ^ length text + number_in base text =
    ap (λ k. digit_value b * base ^ k + number_in base text) counted in
    let power : base ^ length (b ∷ text) ≡ base ^ length text * base = pow-suc base (length text) in
    let above : (digit_value b + 1) * base ^ length text ≤ base * base ^ length text = mul-le-mul_right (base ^ length text) (omega (arith, digit)) in
    let sum : (digit_value b + 1) * base ^ length text ≡ digit_value b * base ^ length text + base ^ length text = grind arith in
    let turned : base * base ^ length text ≡ base ^ length text * base = grind arith in
    omega (arith, first, later, above, sum, turned, power)

capped : (o : Option ℕ) (n most : ℕ) → option_map (λ x. min x most) o ≡ Some n → (x : ℕ) × (o ≡ Some x) × (n ≡ min x most)
capped None n most e = cc
capped (Some x) n most e = (x, refl, cc)

-- the number of a text, if it writes one
numeral_is : (base : ℕ) (text : List ℕ) (x : ℕ) → numeral_of base text ≡ Some x → (list_all (is_digit_in base) text ≡ true) × (number_in base text ≡ x)
unfolding numeral_of
numeral_is base text x = cond_both (is_numeral base text) (Some (number_in base text)) None (λ o. o ≡ Some x → (list_all (is_digit_in base) text ≡ true) × (number_in base text ≡ x))
    (λ h e. ((and_parts (nat_lt 0 (length text)) _ h).1, cc))
    (λ _ e. cc)

-- a short numeral isn't cut off
pub short_is : (text : List ℕ) (n : ℕ) → length text ≤ 9 → option_map (λ x. min x (2 ^ 128 - 1)) (numeral_of 10 text) ≡ Some n → (n < 10 ^ 9) × (short_numeral_of text ≡ Some n)
unfolding short_numeral_of
short_is text n short e =
    let found = capped (numeral_of 10 text) n (2 ^ 128 - 1) e in
    let is = numeral_is 10 text found.0 found.1 in
    let small = number_small 10 text is.0 in
    let power : 10 ^ length text ≤ 10 ^ 9 = pow-le-pow_right (omega arith) short in
    let below : found.0 < 10 ^ 9 = omega (arith, small, power, is.1) in
    let same : n ≡ found.0 = omega (arith, below, found.2) in
    (omega (arith, same, below), cond-true (nat_le (length text) 9) _ _ (le-leb (length text) 9 short) ∙ found.1 ∙ ap Some (sym same))
