-- What a whole reference is.
use Rattle.std.proofs.Common.{◌≡◌, ℕ, ◌+◌, ◌*◌, ◌≤◌, Bool, true, ◌&&◌, List, [], ◌∷◌, ◌++◌, length, refl, sym, subst, ◌∙◌, arith}
use Rattle.std.specs.Prelude.{codes, nat_le, ◌==◌}
use Rattle.std.specs.Char.{digit_value}
use Rattle.std.specs.List.{list_all}
use Rattle.std.specs.Str.{bytes_eq}
use Rattle.std.proofs.lemmas.Bool.{cond_both, eqb-true, leb-true, and_parts, and_from}
use Rattle.std.proofs.lemmas.Slice.Eq.{bytes_eq-Decides}
use Rattle.vkb_bytes.specs.Bytes.{is_digit}
use Rattle.vkb_bytes.specs.Numbers.{is_digit_in, number_in}
use Rattle.reg_reader.specs.Markup.{IsReference}
use Rattle.reg_reader.specs.References.{number_end, partial_if, in_hexadecimal, in_decimal, in_number, in_named, begins_named, progress_of}
use Rattle.reg_reader.specs.declared.reference.Progress.{Progress}
use Rattle.reg_reader.specs.declared.reference.Progress.TheVariants as progress

-- a partial or a wrong reference isn't whole
partial_isnt : {P : Type 0} (value : ℕ) → progress.Partial ≡ progress.Whole value → P
partial_isnt value e = cc

wrong_isnt : {P : Type 0} (value : ℕ) → progress.Wrong ≡ progress.Whole value → P
wrong_isnt value e = cc

whole-same : (a b : ℕ) → progress.Whole a ≡ progress.Whole b → a ≡ b
whole-same a b e = cc

if-partial : {P : Type 0} (b : Bool) (value : ℕ) → partial_if b ≡ progress.Whole value → P
if-partial {P} b value = cond_both b progress.Partial progress.Wrong (λ p. p ≡ progress.Whole value → P) (λ _. partial_isnt value) (λ _. wrong_isnt value)

named-whole : (text name : List ℕ) (code value : ℕ) → bytes_eq text name ≡ true → IsReference name code → progress.Whole code ≡ progress.Whole value → IsReference text value
named-whole text name code value same is e =
    subst (λ x. IsReference x value) (sym ((bytes_eq-Decides text name).0 same)) (subst (IsReference name) (whole-same code value e) is)

in-named : (text : List ℕ) (value : ℕ) → in_named text ≡ progress.Whole value → IsReference text value
in-named text value =
    let P : Progress → Type 0 = λ p. p ≡ progress.Whole value → IsReference text value in
    cond_both (bytes_eq text (codes "&lt;")) _ _ P (λ e. named-whole text _ 60 value e IsReference.less)
    (λ _. cond_both (bytes_eq text (codes "&gt;")) _ _ P (λ e. named-whole text _ 62 value e IsReference.greater)
    (λ _. cond_both (bytes_eq text (codes "&amp;")) _ _ P (λ e. named-whole text _ 38 value e IsReference.ampersand)
    (λ _. cond_both (bytes_eq text (codes "&quot;")) _ _ P (λ e. named-whole text _ 34 value e IsReference.quote)
    (λ _. cond_both (bytes_eq text (codes "&apos;")) _ _ P (λ e. named-whole text _ 39 value e IsReference.apostrophe)
    (λ _. if-partial (begins_named text) value)))))

-- what a number's end says
record Ends (byte number value : ℕ) : Type 0 where
  byte_is : byte ≡ 59
  low : 1 ≤ number
  high : number ≤ 127
  is : number ≡ value

number-ends : (byte number value : ℕ) → number_end byte number ≡ progress.Whole value → Ends byte number value
number-ends byte number value =
    cond_both (byte == 59 && (nat_le 1 number && nat_le number 127)) _ _ (λ p. p ≡ progress.Whole value → Ends byte number value)
    (λ e w. let parts = and_parts (byte == 59) _ e in let bounds = and_parts (nat_le 1 number) (nat_le number 127) parts.1 in
    record { byte_is = eqb-true byte 59 parts.0; low = leb-true 1 number bounds.0; high = leb-true number 127 bounds.1; is = whole-same number value w })
    (λ _. wrong_isnt value)

hexadecimal-is : (digits : List ℕ) (byte number value : ℕ) → list_all (is_digit_in 16) digits ≡ true → 1 ≤ length digits → length digits ≤ 2 → number_in 16 digits ≡ number → Ends byte number value → IsReference (38 ∷ 35 ∷ 120 ∷ (digits ++ byte ∷ [])) value
hexadecimal-is digits byte number value all some few is ends =
    subst (λ x. IsReference (38 ∷ 35 ∷ 120 ∷ (digits ++ x ∷ [])) value) (sym ends.byte_is)
    (subst (IsReference (38 ∷ 35 ∷ 120 ∷ (digits ++ 59 ∷ []))) (is ∙ ends.is)
    (IsReference.hexadecimal digits all some few (subst (λ x. 1 ≤ x) (sym is) ends.low) (subst (λ x. x ≤ 127) (sym is) ends.high)))

decimal-is : (digits : List ℕ) (byte number value : ℕ) → list_all is_digit digits ≡ true → 1 ≤ length digits → length digits ≤ 3 → number_in 10 digits ≡ number → Ends byte number value → IsReference (38 ∷ 35 ∷ (digits ++ byte ∷ [])) value
decimal-is digits byte number value all some few is ends =
    subst (λ x. IsReference (38 ∷ 35 ∷ (digits ++ x ∷ [])) value) (sym ends.byte_is)
    (subst (IsReference (38 ∷ 35 ∷ (digits ++ 59 ∷ []))) (is ∙ ends.is)
    (IsReference.decimal digits all some few (subst (λ x. 1 ≤ x) (sym is) ends.low) (subst (λ x. x ≤ 127) (sym is) ends.high)))

one : (p : ℕ → Bool) (a : ℕ) → p a ≡ true → list_all p (a ∷ []) ≡ true
one p a h = and_from (p a) true h refl

two : (p : ℕ → Bool) (a b : ℕ) → p a ≡ true → p b ≡ true → list_all p (a ∷ b ∷ []) ≡ true
two p a b h k = and_from (p a) (list_all p (b ∷ [])) h (one p b k)

three : (p : ℕ → Bool) (a b c : ℕ) → p a ≡ true → p b ≡ true → p c ≡ true → list_all p (a ∷ b ∷ c ∷ []) ≡ true
three p a b c h k l = and_from (p a) (list_all p (b ∷ c ∷ [])) h (two p b c k l)

in-hexadecimal : (more : List ℕ) (value : ℕ) → in_hexadecimal more ≡ progress.Whole value → IsReference (38 ∷ 35 ∷ 120 ∷ more) value
in-hexadecimal [] value = partial_isnt value
in-hexadecimal (a ∷ []) value = if-partial (is_digit_in 16 a) value
in-hexadecimal (a ∷ b ∷ []) value =
    let P : Progress → Type 0 = λ p. p ≡ progress.Whole value → IsReference (38 ∷ 35 ∷ 120 ∷ a ∷ b ∷ []) value in
    cond_both (is_digit_in 16 a && is_digit_in 16 b) _ _ P (λ _. if-partial _ value)
    (λ _. cond_both (is_digit_in 16 a) _ _ P
    (λ e w. hexadecimal-is (a ∷ []) b (digit_value a) value (one (is_digit_in 16) a e) (omega arith) (omega arith) (omega arith) (number-ends b (digit_value a) value w))
    (λ _. wrong_isnt value))
in-hexadecimal (a ∷ b ∷ c ∷ []) value =
    cond_both (is_digit_in 16 a && is_digit_in 16 b) _ _ (λ p. p ≡ progress.Whole value → IsReference (38 ∷ 35 ∷ 120 ∷ a ∷ b ∷ c ∷ []) value)
    (λ e w. let parts = and_parts (is_digit_in 16 a) (is_digit_in 16 b) e in
    hexadecimal-is (a ∷ b ∷ []) c (16 * digit_value a + digit_value b) value (two (is_digit_in 16) a b parts.0 parts.1) (omega arith) (omega arith) (omega arith) (number-ends c _ value w))
    (λ _. wrong_isnt value)
in-hexadecimal (a ∷ b ∷ c ∷ d ∷ more) value = wrong_isnt value

in-decimal : (more : List ℕ) (value : ℕ) → in_decimal more ≡ progress.Whole value → IsReference (38 ∷ 35 ∷ more) value
in-decimal [] value = partial_isnt value
in-decimal (a ∷ []) value = if-partial (is_digit a) value
in-decimal (a ∷ b ∷ []) value =
    let P : Progress → Type 0 = λ p. p ≡ progress.Whole value → IsReference (38 ∷ 35 ∷ a ∷ b ∷ []) value in
    cond_both (is_digit a) _ _ P
    (λ e. cond_both (is_digit b) _ _ P (λ _. partial_isnt value)
    (λ _ w. decimal-is (a ∷ []) b (digit_value a) value (one is_digit a e) (omega arith) (omega arith) (omega arith) (number-ends b (digit_value a) value w)))
    (λ _. wrong_isnt value)
in-decimal (a ∷ b ∷ c ∷ []) value =
    let P : Progress → Type 0 = λ p. p ≡ progress.Whole value → IsReference (38 ∷ 35 ∷ a ∷ b ∷ c ∷ []) value in
    cond_both (is_digit a && is_digit b) _ _ P
    (λ e. let parts = and_parts (is_digit a) (is_digit b) e in
    cond_both (is_digit c) _ _ P (λ _. if-partial _ value)
    (λ _ w. decimal-is (a ∷ b ∷ []) c (10 * digit_value a + digit_value b) value (two is_digit a b parts.0 parts.1) (omega arith) (omega arith) (omega arith) (number-ends c _ value w)))
    (λ _. wrong_isnt value)
in-decimal (a ∷ b ∷ c ∷ d ∷ []) value =
    cond_both (is_digit a && (is_digit b && is_digit c)) _ _ (λ p. p ≡ progress.Whole value → IsReference (38 ∷ 35 ∷ a ∷ b ∷ c ∷ d ∷ []) value)
    (λ e w. let parts = and_parts (is_digit a) _ e in let more = and_parts (is_digit b) (is_digit c) parts.1 in
    decimal-is (a ∷ b ∷ c ∷ []) d (10 * (10 * digit_value a + digit_value b) + digit_value c) value (three is_digit a b c parts.0 more.0 more.1) (omega arith) (omega arith) (omega arith) (number-ends d _ value w))
    (λ _. wrong_isnt value)
in-decimal (a ∷ b ∷ c ∷ d ∷ e ∷ more) value = wrong_isnt value

in-number : (more : List ℕ) (value : ℕ) → in_number more ≡ progress.Whole value → IsReference (38 ∷ 35 ∷ more) value
in-number [] value = partial_isnt value
in-number (a ∷ more) value =
    cond_both (a == 120) _ _ (λ p. p ≡ progress.Whole value → IsReference (38 ∷ 35 ∷ a ∷ more) value)
    (λ e w. subst (λ x. IsReference (38 ∷ 35 ∷ x ∷ more) value) (sym (eqb-true a 120 e)) (in-hexadecimal more value w))
    (λ _. in-decimal (a ∷ more) value)

pub whole-reference : (text : List ℕ) (value : ℕ) → progress_of text ≡ progress.Whole value → IsReference text value
whole-reference [] value = in-named [] value
whole-reference (a ∷ []) value = in-named (a ∷ []) value
whole-reference (a ∷ b ∷ more) value =
    cond_both (a == 38 && b == 35) _ _ (λ p. p ≡ progress.Whole value → IsReference (a ∷ b ∷ more) value)
    (λ e w. let parts = and_parts (a == 38) (b == 35) e in
    subst (λ x. IsReference (x ∷ b ∷ more) value) (sym (eqb-true a 38 parts.0))
    (subst (λ x. IsReference (38 ∷ x ∷ more) value) (sym (eqb-true b 35 parts.1)) (in-number more value w)))
    (λ _. in-named (a ∷ b ∷ more) value)
