-- What holes of formats write, and which numbers stand in decimal.
use Rattle.std.proofs.Common.{◌≡◌, ◌∙◌, ◌++◌, ◌-◌, ◌^◌, ◌<◌, ℕ, zero, suc, ℤ, pos, negsuc, ◌≤ℤ◌, ◌<ℤ◌, Bool, true, false, cond, eqb, ltb, List, [], length, replicate, codes, Option, Some, IfSome, option_map, refl, ap, subst, arith, le-ltb, ne_eqb}
use Rattle.std.proofs.lemmas.Int.{ints}
use Rattle.std.proofs.lemmas.List.{append-nil}
use Rattle.std.specs.Fmt.{◌++?◌, char_count, decimal, digits, format_spec, padded_integral, signed_decimal}
use Rattle.hdr_writer.specs.Numbers.{eight_at_least, mask_number}

eight-digits : (ds : List ℕ) → padded_integral (format_spec 32 0 4 8 (2 ^ 64 - 1)) false [] ds ≡ eight_at_least ds
unfolding padded_integral char_count
eight-digits ds =
    let none : 8 - length ds - 0 - 0 ≡ 8 - length ds = omega arith in
    ap (λ n. replicate n 48 ++ (ds ++ [])) none ∙ ap (λ t. replicate (8 - length ds) 48 ++ t) (append-nil ds)

-- what `0x{n:08X}` writes, where the hole pads digits so
pub hexadecimal-told : (number : ℕ) (text : List ℕ) (told : Option (List ℕ)) (pad : List ℕ → List ℕ) → told ≡ Some (digits 16 true number)
    → pad ≡ padded_integral (format_spec 32 0 4 8 (2 ^ 64 - 1)) false [] → IfSome (Some (codes "0x") ++? option_map pad told) (λ bs. text ≡ bs)
    → text ≡ codes "0x" ++ eight_at_least (digits 16 true number)
hexadecimal-told number text told pad are pads says =
    let P : Option (List ℕ) → Type 0 = λ o. IfSome (Some (codes "0x") ++? option_map pad o) (λ bs. text ≡ bs) in
    let is : text ≡ codes "0x" ++ pad (digits 16 true number) = subst P are says in
    is ∙ ap (λ (f : List ℕ → List ℕ). codes "0x" ++ f (digits 16 true number)) pads ∙ ap (λ ds. codes "0x" ++ ds) (eight-digits (digits 16 true number))

both-fail : (a b : Bool) (x y z : List ℕ) → a ≡ false → b ≡ false → cond a x (cond b y z) ≡ z
both-fail a b x y z e f = ap (λ t. cond t x (cond b y z)) e ∙ ap (λ t. cond t y z) f

zero-told : mask_number (pos 0) ≡ signed_decimal (pos 0)
unfolding digits
zero-told = refl

above : (n : ℕ) → pos (suc n) ≤ℤ pos 0 → ⊥
above n h = omega (arith, ints)

-- no number above 0
pub not-above : (z : ℤ) → z ≤ℤ pos 0 → mask_number z ≡ signed_decimal z
not-above (pos zero) h = zero-told
not-above (pos (suc n)) h = absurd (above n h)
not-above (negsuc n) h = refl

more-than : (n : ℕ) → pos 18446744073709551615 <ℤ pos n → 18446744073709551615 < n
more-than n h = omega (arith, ints)

-- more than 64 bits
pub past-mask : (z : ℤ) → pos 18446744073709551615 <ℤ z → mask_number z ≡ signed_decimal z
past-mask (pos n) h =
    let more = more-than n h in
    both-fail (eqb n 0) (ltb n 18446744073709551616) _ _ (decimal n) (ne_eqb n 0 (λ e. omega arith)) (le-ltb n 18446744073709551616 (omega arith))
past-mask (negsuc n) h = refl
