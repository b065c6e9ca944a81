-- What a reference begins with.
use Rattle.std.proofs.Common.{◌≡◌, ℕ, zero, suc, ◌+◌, ◌*◌, ◌<◌, ◌≤◌, Bool, true, false, ◌&&◌, cond, List, [], ◌∷◌, ◌++◌, length, take, refl, sym, ap, ◌∙◌, arith}
use Rattle.std.specs.Prelude.{slice_index, codes, nat_le, ◌==◌}
use Rattle.std.specs.Char.{digit_value}
use Rattle.std.specs.List.{list_all}
use Rattle.std.proofs.lemmas.Bool.{cond-true, cond-false, and_parts, and_from, le-leb, ne_eqb, false≢true}
use Rattle.vkb_bytes.specs.Bytes.{is_digit}
use Rattle.vkb_bytes.specs.Numbers.{is_digit_in, number_in}
use Rattle.reg_reader.specs.Markup.{IsReference}
use Rattle.reg_reader.specs.References.{number_end, partial_if, in_hexadecimal, in_decimal, in_number, progress_of}
use Rattle.reg_reader.specs.declared.reference.Progress.TheVariants as progress

pub reference-begins : (text : List ℕ) (value : ℕ) → IsReference text value → slice_index text 0 ≡ 38
reference-begins text value IsReference.less = refl
reference-begins text value IsReference.greater = refl
reference-begins text value IsReference.ampersand = refl
reference-begins text value IsReference.quote = refl
reference-begins text value IsReference.apostrophe = refl
reference-begins text value (IsReference.decimal digits all some few low high) = refl
reference-begins text value (IsReference.hexadecimal digits all some few low high) = refl

digit-isnt : (a x : ℕ) → is_digit a ≡ true → is_digit x ≡ false → (a == x) ≡ false
digit-isnt a x e isnt = ne_eqb a x (λ same. false≢true (sym isnt ∙ ap is_digit (sym same) ∙ e))

-- where a number ends
number-whole : (number value : ℕ) → number ≡ value → 1 ≤ value → value ≤ 127 → number_end 59 number ≡ progress.Whole value
number-whole number value e low high =
    cond-true (nat_le 1 number && nat_le number 127) _ _ (and_from (nat_le 1 number) (nat_le number 127) (le-leb 1 number (omega arith)) (le-leb number 127 (omega arith)))
    ∙ ap progress.Whole e

number-partial : (number : ℕ) → 1 ≤ number → number ≤ 127 → partial_if (nat_le 1 number && nat_le number 127) ≡ progress.Partial
number-partial number low high = cond-true _ _ _ (and_from (nat_le 1 number) (nat_le number 127) (le-leb 1 number low) (le-leb number 127 high))

-- ---- decimal digits, after `&#`

digits-number : (a : ℕ) (more : List ℕ) → is_digit a ≡ true → in_number (a ∷ more) ≡ in_decimal (a ∷ more)
digits-number a more e = cond-false (a == 120) _ _ (digit-isnt a 120 e refl)

decimal-one : (a : ℕ) → is_digit a ≡ true → in_number (a ∷ []) ≡ progress.Partial
decimal-one a e = digits-number a [] e ∙ cond-true (is_digit a) _ _ e

decimal-two : (a b : ℕ) → is_digit a ≡ true → is_digit b ≡ true → in_number (a ∷ b ∷ []) ≡ progress.Partial
decimal-two a b e f = digits-number a (b ∷ []) e ∙ cond-true (is_digit a) (cond (is_digit b) progress.Partial (number_end b (digit_value a))) progress.Wrong e ∙ cond-true (is_digit b) progress.Partial (number_end b (digit_value a)) f

decimal-three : (a b c : ℕ) → is_digit a ≡ true → is_digit b ≡ true → is_digit c ≡ true → 1 ≤ number_in 10 (a ∷ b ∷ c ∷ []) → number_in 10 (a ∷ b ∷ c ∷ []) ≤ 127 → in_number (a ∷ b ∷ c ∷ []) ≡ progress.Partial
decimal-three a b c e f g low high =
    digits-number a (b ∷ c ∷ []) e ∙ cond-true (is_digit a && is_digit b) _ progress.Wrong (and_from (is_digit a) (is_digit b) e f) ∙ cond-true (is_digit c) _ (number_end c (10 * digit_value a + digit_value b)) g
    ∙ number-partial (10 * (10 * digit_value a + digit_value b) + digit_value c) (omega arith) (omega arith)

whole-one : (a : ℕ) → is_digit a ≡ true → 1 ≤ number_in 10 (a ∷ []) → number_in 10 (a ∷ []) ≤ 127 → in_number (a ∷ 59 ∷ []) ≡ progress.Whole (number_in 10 (a ∷ []))
whole-one a e low high = digits-number a (59 ∷ []) e ∙ cond-true (is_digit a) _ progress.Wrong e ∙ number-whole (digit_value a) (number_in 10 (a ∷ [])) (omega arith) low high

whole-two : (a b : ℕ) → is_digit a ≡ true → is_digit b ≡ true → 1 ≤ number_in 10 (a ∷ b ∷ []) → number_in 10 (a ∷ b ∷ []) ≤ 127 → in_number (a ∷ b ∷ 59 ∷ []) ≡ progress.Whole (number_in 10 (a ∷ b ∷ []))
whole-two a b e f low high =
    digits-number a (b ∷ 59 ∷ []) e ∙ cond-true (is_digit a && is_digit b) _ progress.Wrong (and_from (is_digit a) (is_digit b) e f)
    ∙ number-whole (10 * digit_value a + digit_value b) (number_in 10 (a ∷ b ∷ [])) (omega arith) low high

whole-three : (a b c : ℕ) → is_digit a ≡ true → is_digit b ≡ true → is_digit c ≡ true → 1 ≤ number_in 10 (a ∷ b ∷ c ∷ []) → number_in 10 (a ∷ b ∷ c ∷ []) ≤ 127 → in_number (a ∷ b ∷ c ∷ 59 ∷ []) ≡ progress.Whole (number_in 10 (a ∷ b ∷ c ∷ []))
whole-three a b c e f g low high =
    digits-number a (b ∷ c ∷ 59 ∷ []) e ∙ cond-true (is_digit a && (is_digit b && is_digit c)) _ progress.Wrong (and_from (is_digit a) _ e (and_from (is_digit b) (is_digit c) f g))
    ∙ number-whole (10 * (10 * digit_value a + digit_value b) + digit_value c) (number_in 10 (a ∷ b ∷ c ∷ [])) (omega arith) low high

-- ---- hexadecimal digits, after `&#x`

hexadecimal-isnt : is_digit_in 16 59 ≡ false
hexadecimal-isnt = refl

hexadecimal-whole-one : (a : ℕ) → is_digit_in 16 a ≡ true → 1 ≤ number_in 16 (a ∷ []) → number_in 16 (a ∷ []) ≤ 127 → in_hexadecimal (a ∷ 59 ∷ []) ≡ progress.Whole (number_in 16 (a ∷ []))
hexadecimal-whole-one a e low high =
    cond-false (is_digit_in 16 a && is_digit_in 16 59) _ _ (ap (λ x. x && is_digit_in 16 59) e)
    ∙ cond-true (is_digit_in 16 a) _ _ e ∙ number-whole (digit_value a) (number_in 16 (a ∷ [])) (omega arith) low high

hexadecimal-whole-two : (a b : ℕ) → is_digit_in 16 a ≡ true → is_digit_in 16 b ≡ true → 1 ≤ number_in 16 (a ∷ b ∷ []) → number_in 16 (a ∷ b ∷ []) ≤ 127 → in_hexadecimal (a ∷ b ∷ 59 ∷ []) ≡ progress.Whole (number_in 16 (a ∷ b ∷ []))
hexadecimal-whole-two a b e f low high =
    cond-true (is_digit_in 16 a && is_digit_in 16 b) _ _ (and_from (is_digit_in 16 a) (is_digit_in 16 b) e f)
    ∙ number-whole (16 * digit_value a + digit_value b) (number_in 16 (a ∷ b ∷ [])) (omega arith) low high

hexadecimal-two : (a b : ℕ) → is_digit_in 16 a ≡ true → is_digit_in 16 b ≡ true → 1 ≤ number_in 16 (a ∷ b ∷ []) → number_in 16 (a ∷ b ∷ []) ≤ 127 → in_hexadecimal (a ∷ b ∷ []) ≡ progress.Partial
hexadecimal-two a b e f low high =
    cond-true (is_digit_in 16 a && is_digit_in 16 b) _ _ (and_from (is_digit_in 16 a) (is_digit_in 16 b) e f)
    ∙ number-partial (16 * digit_value a + digit_value b) (omega arith) (omega arith)

record Two (p : ℕ → Bool) (a b : ℕ) : Type 0 where
  first : p a ≡ true
  second : p b ≡ true

two-of : (p : ℕ → Bool) (a b : ℕ) (more : List ℕ) → list_all p (a ∷ b ∷ more) ≡ true → Two p a b
two-of p a b more e = let parts = and_parts (p a) _ e in record { first = parts.0; second = (and_parts (p b) _ parts.1).0 }

third-of : (p : ℕ → Bool) (a b c : ℕ) (more : List ℕ) → list_all p (a ∷ b ∷ c ∷ more) ≡ true → p c ≡ true
third-of p a b c more e = (and_parts (p c) _ (and_parts (p b) _ (and_parts (p a) _ e).1).1).0

decimal-whole : (digits : List ℕ) → list_all is_digit digits ≡ true → 1 ≤ length digits → length digits ≤ 3 → 1 ≤ number_in 10 digits → number_in 10 digits ≤ 127 → in_number (digits ++ 59 ∷ []) ≡ progress.Whole (number_in 10 digits)
decimal-whole [] all some few low high = absurd (omega arith)
decimal-whole (a ∷ []) all some few low high = whole-one a (and_parts (is_digit a) true all).0 low high
decimal-whole (a ∷ b ∷ []) all some few low high = let t = two-of is_digit a b [] all in whole-two a b t.first t.second low high
decimal-whole (a ∷ b ∷ c ∷ []) all some few low high = let t = two-of is_digit a b (c ∷ []) all in whole-three a b c t.first t.second (third-of is_digit a b c [] all) low high
decimal-whole (a ∷ b ∷ c ∷ d ∷ more) all some few low high = absurd (omega arith)

hexadecimal-whole : (digits : List ℕ) → list_all (is_digit_in 16) digits ≡ true → 1 ≤ length digits → length digits ≤ 2 → 1 ≤ number_in 16 digits → number_in 16 digits ≤ 127 → in_hexadecimal (digits ++ 59 ∷ []) ≡ progress.Whole (number_in 16 digits)
hexadecimal-whole [] all some few low high = absurd (omega arith)
hexadecimal-whole (a ∷ []) all some few low high = hexadecimal-whole-one a (and_parts (is_digit_in 16 a) true all).0 low high
hexadecimal-whole (a ∷ b ∷ []) all some few low high = let t = two-of (is_digit_in 16) a b [] all in hexadecimal-whole-two a b t.first t.second low high
hexadecimal-whole (a ∷ b ∷ c ∷ more) all some few low high = absurd (omega arith)

pub reference-whole : (text : List ℕ) (value : ℕ) → IsReference text value → progress_of text ≡ progress.Whole value
reference-whole text value IsReference.less = refl
reference-whole text value IsReference.greater = refl
reference-whole text value IsReference.ampersand = refl
reference-whole text value IsReference.quote = refl
reference-whole text value IsReference.apostrophe = refl
reference-whole text value (IsReference.decimal digits all some few low high) = decimal-whole digits all some few low high
reference-whole text value (IsReference.hexadecimal digits all some few low high) = hexadecimal-whole digits all some few low high

-- ---- parts

partial-3 : (k a b c : ℕ) → k < 4 → 1 ≤ k → (name : List ℕ) → name ≡ 38 ∷ a ∷ b ∷ c ∷ [] → progress_of (38 ∷ []) ≡ progress.Partial → progress_of (38 ∷ a ∷ []) ≡ progress.Partial → progress_of (38 ∷ a ∷ b ∷ []) ≡ progress.Partial → progress_of (take k name) ≡ progress.Partial
partial-3 zero a b c lt low name e x y z = absurd (omega arith)
partial-3 (suc zero) a b c lt low name e x y z = ap (λ n. progress_of (take 1 n)) e ∙ x
partial-3 (suc (suc zero)) a b c lt low name e x y z = ap (λ n. progress_of (take 2 n)) e ∙ y
partial-3 (suc (suc (suc zero))) a b c lt low name e x y z = ap (λ n. progress_of (take 3 n)) e ∙ z
partial-3 (suc (suc (suc (suc k)))) a b c lt low name e x y z = absurd (omega arith)

less-partial : (k : ℕ) → 1 ≤ k → k < 4 → progress_of (take k (codes "&lt;")) ≡ progress.Partial
less-partial k low lt = partial-3 k 108 116 59 lt low (codes "&lt;") refl refl refl refl

greater-partial : (k : ℕ) → 1 ≤ k → k < 4 → progress_of (take k (codes "&gt;")) ≡ progress.Partial
greater-partial k low lt = partial-3 k 103 116 59 lt low (codes "&gt;") refl refl refl refl

ampersand-partial : (k : ℕ) → 1 ≤ k → k < 5 → progress_of (take k (codes "&amp;")) ≡ progress.Partial
ampersand-partial zero low lt = absurd (omega arith)
ampersand-partial (suc zero) low lt = refl
ampersand-partial (suc (suc zero)) low lt = refl
ampersand-partial (suc (suc (suc zero))) low lt = refl
ampersand-partial (suc (suc (suc (suc zero)))) low lt = refl
ampersand-partial (suc (suc (suc (suc (suc k))))) low lt = absurd (omega arith)

quote-partial : (k : ℕ) → 1 ≤ k → k < 6 → progress_of (take k (codes "&quot;")) ≡ progress.Partial
quote-partial zero low lt = absurd (omega arith)
quote-partial (suc zero) low lt = refl
quote-partial (suc (suc zero)) low lt = refl
quote-partial (suc (suc (suc zero))) low lt = refl
quote-partial (suc (suc (suc (suc zero)))) low lt = refl
quote-partial (suc (suc (suc (suc (suc zero))))) low lt = refl
quote-partial (suc (suc (suc (suc (suc (suc k)))))) low lt = absurd (omega arith)

apostrophe-partial : (k : ℕ) → 1 ≤ k → k < 6 → progress_of (take k (codes "&apos;")) ≡ progress.Partial
apostrophe-partial zero low lt = absurd (omega arith)
apostrophe-partial (suc zero) low lt = refl
apostrophe-partial (suc (suc zero)) low lt = refl
apostrophe-partial (suc (suc (suc zero))) low lt = refl
apostrophe-partial (suc (suc (suc (suc zero)))) low lt = refl
apostrophe-partial (suc (suc (suc (suc (suc zero))))) low lt = refl
apostrophe-partial (suc (suc (suc (suc (suc (suc k)))))) low lt = absurd (omega arith)

decimal-partial : (k : ℕ) (digits : List ℕ) → list_all is_digit digits ≡ true → 1 ≤ length digits → length digits ≤ 3 → 1 ≤ number_in 10 digits → number_in 10 digits ≤ 127 → 1 ≤ k → k < length (38 ∷ 35 ∷ (digits ++ 59 ∷ [])) → progress_of (take k (38 ∷ 35 ∷ (digits ++ 59 ∷ []))) ≡ progress.Partial
decimal-partial zero digits all some few small great low lt = absurd (omega arith)
decimal-partial (suc zero) digits all some few small great low lt = refl
decimal-partial (suc (suc zero)) digits all some few small great low lt = refl
decimal-partial (suc (suc (suc k))) [] all some few small great low lt = absurd (omega arith)
decimal-partial (suc (suc (suc zero))) (a ∷ more) all some few small great low lt = decimal-one a (and_parts (is_digit a) _ all).0
decimal-partial (suc (suc (suc (suc k)))) (a ∷ []) all some few small great low lt = absurd (omega arith)
decimal-partial (suc (suc (suc (suc zero)))) (a ∷ b ∷ more) all some few small great low lt = let t = two-of is_digit a b more all in decimal-two a b t.first t.second
decimal-partial (suc (suc (suc (suc (suc k))))) (a ∷ b ∷ []) all some few small great low lt = absurd (omega arith)
decimal-partial (suc (suc (suc (suc (suc zero))))) (a ∷ b ∷ c ∷ []) all some few small great low lt =
    let t = two-of is_digit a b (c ∷ []) all in decimal-three a b c t.first t.second (third-of is_digit a b c [] all) small great
decimal-partial (suc (suc (suc (suc (suc (suc k)))))) (a ∷ b ∷ c ∷ []) all some few small great low lt = absurd (omega arith)
decimal-partial (suc (suc (suc (suc (suc k))))) (a ∷ b ∷ c ∷ d ∷ more) all some few small great low lt = absurd (omega arith)

hexadecimal-partial : (k : ℕ) (digits : List ℕ) → list_all (is_digit_in 16) digits ≡ true → 1 ≤ length digits → length digits ≤ 2 → 1 ≤ number_in 16 digits → number_in 16 digits ≤ 127 → 1 ≤ k → k < length (38 ∷ 35 ∷ 120 ∷ (digits ++ 59 ∷ [])) → progress_of (take k (38 ∷ 35 ∷ 120 ∷ (digits ++ 59 ∷ []))) ≡ progress.Partial
hexadecimal-partial zero digits all some few small great low lt = absurd (omega arith)
hexadecimal-partial (suc zero) digits all some few small great low lt = refl
hexadecimal-partial (suc (suc zero)) digits all some few small great low lt = refl
hexadecimal-partial (suc (suc (suc zero))) digits all some few small great low lt = refl
hexadecimal-partial (suc (suc (suc (suc k)))) [] all some few small great low lt = absurd (omega arith)
hexadecimal-partial (suc (suc (suc (suc zero)))) (a ∷ more) all some few small great low lt = cond-true (is_digit_in 16 a) _ _ (and_parts (is_digit_in 16 a) _ all).0
hexadecimal-partial (suc (suc (suc (suc (suc k))))) (a ∷ []) all some few small great low lt = absurd (omega arith)
hexadecimal-partial (suc (suc (suc (suc (suc zero))))) (a ∷ b ∷ []) all some few small great low lt = let t = two-of (is_digit_in 16) a b [] all in hexadecimal-two a b t.first t.second small great
hexadecimal-partial (suc (suc (suc (suc (suc (suc k)))))) (a ∷ b ∷ []) all some few small great low lt = absurd (omega arith)
hexadecimal-partial (suc (suc (suc (suc (suc k))))) (a ∷ b ∷ c ∷ more) all some few small great low lt = absurd (omega arith)

pub reference-partial : (text : List ℕ) (value k : ℕ) → IsReference text value → 1 ≤ k → k < length text → progress_of (take k text) ≡ progress.Partial
reference-partial text value k IsReference.less low lt = less-partial k low lt
reference-partial text value k IsReference.greater low lt = greater-partial k low lt
reference-partial text value k IsReference.ampersand low lt = ampersand-partial k low lt
reference-partial text value k IsReference.quote low lt = quote-partial k low lt
reference-partial text value k IsReference.apostrophe low lt = apostrophe-partial k low lt
reference-partial text value k (IsReference.decimal digits all some few small great) low lt = decimal-partial k digits all some few small great low lt
reference-partial text value k (IsReference.hexadecimal digits all some few small great) low lt = hexadecimal-partial k digits all some few small great low lt
