-- What may begin a reference goes on to one.
use Rattle.std.proofs.Common.{◌≡◌, ℕ, ◌+◌, ◌*◌, ◌≤◌, inl, inr, Bool, true, false, ◌&&◌, ◌||◌, List, [], ◌∷◌, ◌++◌, length, take, drop, refl, sym, ap, subst, ◌∙◌, arith}
use Rattle.std.specs.Prelude.{codes, nat_le, ◌==◌}
use Rattle.std.specs.Char.{digit_value}
use Rattle.std.specs.List.{list_all}
use Rattle.std.specs.Str.{bytes_eq}
use Rattle.std.proofs.lemmas.List.{take-append-drop}
use Rattle.std.proofs.lemmas.Bool.{cond_both, eqb-true, leb-true, ltb-true, and_parts, and_from, or_cases, cases_lt}
use Rattle.std.proofs.lemmas.Bool.Decides.{nat_tests}
use Rattle.std.proofs.lemmas.Slice.Eq.{bytes_eq-Decides}
use Rattle.vkb_bytes.specs.Bytes.{begins, is_digit}
use Rattle.vkb_bytes.specs.Numbers.{is_digit_in, number_in}
use Rattle.reg_reader.specs.Markup.{IsReference}
use Rattle.reg_reader.specs.References.{number_end, partial_if, in_hexadecimal, in_decimal, in_number, in_named, begins_named, progress_of}
use Rattle.reg_reader.specs.declared.reference.Progress.{Progress}
use Rattle.reg_reader.specs.declared.reference.Progress.TheVariants as progress

-- what makes a text a reference
pub record Completion (text : List ℕ) : Type 0 where
  pub more : List ℕ
  pub value : ℕ
  pub is : IsReference (text ++ more) value

whole_isnt : {P : Type 0} (value : ℕ) → progress.Whole value ≡ progress.Partial → P
whole_isnt value e = cc

wrong_isnt : {P : Type 0} → progress.Wrong ≡ progress.Partial → P
wrong_isnt e = cc

partial-good : (b : Bool) → partial_if b ≡ progress.Partial → b ≡ true
partial-good true e = refl
partial-good false e = wrong_isnt e

end-isnt : {P : Type 0} (byte number : ℕ) → number_end byte number ≡ progress.Partial → P
end-isnt {P} byte number = cond_both _ _ _ (λ p. p ≡ progress.Partial → P) (λ _. whole_isnt number) (λ _. wrong_isnt)

name-completes : (text name : List ℕ) (code : ℕ) → IsReference name code → begins name text ≡ true → Completion text
name-completes text name code is e =
    let same : text ≡ take (length text) name = (bytes_eq-Decides text (take (length text) name)).0 e in
    record {
      more = drop (length text) name;
      value = code;
      is = subst (λ x. IsReference x code) (sym (ap (λ x. x ++ drop (length text) name) same ∙ take-append-drop (length text) name)) is;
    }

named-completes : (text : List ℕ) → in_named text ≡ progress.Partial → Completion text
named-completes text =
    let P : Progress → Type 0 = λ p. p ≡ progress.Partial → Completion text in
    let b : List ℕ → Bool = λ name. begins name text in
    cond_both (bytes_eq text (codes "&lt;")) _ _ P (λ _. whole_isnt 60)
    (λ _. cond_both (bytes_eq text (codes "&gt;")) _ _ P (λ _. whole_isnt 62)
    (λ _. cond_both (bytes_eq text (codes "&amp;")) _ _ P (λ _. whole_isnt 38)
    (λ _. cond_both (bytes_eq text (codes "&quot;")) _ _ P (λ _. whole_isnt 34)
    (λ _. cond_both (bytes_eq text (codes "&apos;")) _ _ P (λ _. whole_isnt 39)
    (λ _ h. elim (or_cases (b (codes "&lt;") || b (codes "&gt;") || b (codes "&amp;") || b (codes "&quot;")) (b (codes "&apos;")) (partial-good (begins_named text) h)) [
      | inr e ↦ name-completes text (codes "&apos;") 39 IsReference.apostrophe e
      | inl x ↦ elim (or_cases (b (codes "&lt;") || b (codes "&gt;") || b (codes "&amp;")) (b (codes "&quot;")) x) [
        | inr e ↦ name-completes text (codes "&quot;") 34 IsReference.quote e
        | inl y ↦ elim (or_cases (b (codes "&lt;") || b (codes "&gt;")) (b (codes "&amp;")) y) [
          | inr e ↦ name-completes text (codes "&amp;") 38 IsReference.ampersand e
          | inl z ↦ elim (or_cases (b (codes "&lt;")) (b (codes "&gt;")) z) [
            | inr e ↦ name-completes text (codes "&gt;") 62 IsReference.greater e
            | inl e ↦ name-completes text (codes "&lt;") 60 IsReference.less e
          ]
        ]
      ]
    ])))))

digit-le : (a : ℕ) → is_digit a ≡ true → digit_value a ≤ 9
digit-le a e =
    let parts = and_parts (nat_le 48 a) (nat_le a 57) e in
    digit-small a (leb-true 48 a parts.0) (leb-true a 57 parts.1)
  where
    digit-small : (a : ℕ) → 48 ≤ a → a ≤ 57 → digit_value a ≤ 9
    digit-small a low high = grind (arith, nat_tests)

digit-value-le : (a : ℕ) → is_digit_in 16 a ≡ true → digit_value a ≤ 127
digit-value-le a e = omega (arith, ltb-true (digit_value a) 16 e)

one : (p : ℕ → Bool) (a : ℕ) → p a ≡ true → list_all p (a ∷ []) ≡ true
one p a h = and_from (p a) true h refl

two : (p : ℕ → Bool) (a b : ℕ) → p a ≡ true → p b ≡ true → list_all p (a ∷ b ∷ []) ≡ true
two p a b h k = and_from (p a) (list_all p (b ∷ [])) h (one p b k)

three : (p : ℕ → Bool) (a b c : ℕ) → p a ≡ true → p b ≡ true → p c ≡ true → list_all p (a ∷ b ∷ c ∷ []) ≡ true
three p a b c h k l = and_from (p a) (list_all p (b ∷ c ∷ [])) h (two p b c k l)

hexadecimal-completes : (rest : List ℕ) → in_hexadecimal rest ≡ progress.Partial → Completion (38 ∷ 35 ∷ 120 ∷ rest)
hexadecimal-completes [] = λ h. record { more = 49 ∷ 59 ∷ []; value = number_in 16 (49 ∷ []); is = IsReference.hexadecimal (49 ∷ []) refl (omega arith) (omega arith) (omega arith) (omega arith) }
hexadecimal-completes (a ∷ []) = λ h.
    let e = partial-good (is_digit_in 16 a) h in
    elim (cases_lt 0 (digit_value a)) [
      | inl some ↦ record { more = 59 ∷ []; value = number_in 16 (a ∷ []); is = IsReference.hexadecimal (a ∷ []) (one (is_digit_in 16) a e) (omega arith) (omega arith) (omega arith) (omega (arith, digit-value-le a e)) }
      | inr none ↦ record { more = 49 ∷ 59 ∷ []; value = number_in 16 (a ∷ 49 ∷ []); is = IsReference.hexadecimal (a ∷ 49 ∷ []) (two (is_digit_in 16) a 49 e refl) (omega arith) (omega arith) (omega arith) (omega arith) }
    ]
hexadecimal-completes (a ∷ b ∷ []) =
    cond_both (is_digit_in 16 a && is_digit_in 16 b) _ _ (λ p. p ≡ progress.Partial → Completion (38 ∷ 35 ∷ 120 ∷ a ∷ b ∷ []))
    (λ e h. let parts = and_parts (is_digit_in 16 a) (is_digit_in 16 b) e in
    let bounds = and_parts (nat_le 1 (16 * digit_value a + digit_value b)) (nat_le (16 * digit_value a + digit_value b) 127) (partial-good _ h) in
    record { more = 59 ∷ []; value = number_in 16 (a ∷ b ∷ []); is = IsReference.hexadecimal (a ∷ b ∷ []) (two (is_digit_in 16) a b parts.0 parts.1) (omega arith) (omega arith) (omega (arith, leb-true 1 _ bounds.0)) (omega (arith, leb-true _ 127 bounds.1)) })
    (λ _. cond_both (is_digit_in 16 a) _ _ (λ p. p ≡ progress.Partial → Completion (38 ∷ 35 ∷ 120 ∷ a ∷ b ∷ [])) (λ _. end-isnt b (digit_value a)) (λ _. wrong_isnt))
hexadecimal-completes (a ∷ b ∷ c ∷ []) =
    cond_both (is_digit_in 16 a && is_digit_in 16 b) _ _ (λ p. p ≡ progress.Partial → Completion (38 ∷ 35 ∷ 120 ∷ a ∷ b ∷ c ∷ [])) (λ _. end-isnt c (16 * digit_value a + digit_value b)) (λ _. wrong_isnt)
hexadecimal-completes (a ∷ b ∷ c ∷ d ∷ more) = wrong_isnt

decimal-completes : (rest : List ℕ) → in_decimal rest ≡ progress.Partial → Completion (38 ∷ 35 ∷ rest)
decimal-completes [] = λ h. record { more = 49 ∷ 59 ∷ []; value = number_in 10 (49 ∷ []); is = IsReference.decimal (49 ∷ []) refl (omega arith) (omega arith) (omega arith) (omega arith) }
decimal-completes (a ∷ []) = λ h.
    let e = partial-good (is_digit a) h in
    elim (cases_lt 0 (digit_value a)) [
      | inl some ↦ record { more = 59 ∷ []; value = number_in 10 (a ∷ []); is = IsReference.decimal (a ∷ []) (one is_digit a e) (omega arith) (omega arith) (omega arith) (omega (arith, digit-le a e)) }
      | inr none ↦ record { more = 49 ∷ 59 ∷ []; value = number_in 10 (a ∷ 49 ∷ []); is = IsReference.decimal (a ∷ 49 ∷ []) (two is_digit a 49 e refl) (omega arith) (omega arith) (omega arith) (omega arith) }
    ]
decimal-completes (a ∷ b ∷ []) =
    let P : Progress → Type 0 = λ p. p ≡ progress.Partial → Completion (38 ∷ 35 ∷ a ∷ b ∷ []) in
    cond_both (is_digit a) _ _ P
    (λ e. cond_both (is_digit b) _ _ P
    (λ f _. elim (cases_lt 0 (10 * digit_value a + digit_value b)) [
      | inl some ↦ record { more = 59 ∷ []; value = number_in 10 (a ∷ b ∷ []); is = IsReference.decimal (a ∷ b ∷ []) (two is_digit a b e f) (omega arith) (omega arith) (omega arith) (omega (arith, digit-le a e, digit-le b f)) }
      | inr none ↦ record { more = 49 ∷ 59 ∷ []; value = number_in 10 (a ∷ b ∷ 49 ∷ []); is = IsReference.decimal (a ∷ b ∷ 49 ∷ []) (three is_digit a b 49 e f refl) (omega arith) (omega arith) (omega arith) (omega arith) }
    ])
    (λ _. end-isnt b (digit_value a)))
    (λ _. wrong_isnt)
decimal-completes (a ∷ b ∷ c ∷ []) =
    let P : Progress → Type 0 = λ p. p ≡ progress.Partial → Completion (38 ∷ 35 ∷ a ∷ b ∷ c ∷ []) in
    cond_both (is_digit a && is_digit b) _ _ P
    (λ e. let parts = and_parts (is_digit a) (is_digit b) e in
    cond_both (is_digit c) _ _ P
    (λ f h. let bounds = and_parts (nat_le 1 (10 * (10 * digit_value a + digit_value b) + digit_value c)) (nat_le (10 * (10 * digit_value a + digit_value b) + digit_value c) 127) (partial-good _ h) in
    record { more = 59 ∷ []; value = number_in 10 (a ∷ b ∷ c ∷ []); is = IsReference.decimal (a ∷ b ∷ c ∷ []) (three is_digit a b c parts.0 parts.1 f) (omega arith) (omega arith) (omega (arith, leb-true 1 _ bounds.0)) (omega (arith, leb-true _ 127 bounds.1)) })
    (λ _. end-isnt c (10 * digit_value a + digit_value b)))
    (λ _. wrong_isnt)
decimal-completes (a ∷ b ∷ c ∷ d ∷ []) =
    cond_both (is_digit a && (is_digit b && is_digit c)) _ _ (λ p. p ≡ progress.Partial → Completion (38 ∷ 35 ∷ a ∷ b ∷ c ∷ d ∷ [])) (λ _. end-isnt d (10 * (10 * digit_value a + digit_value b) + digit_value c)) (λ _. wrong_isnt)
decimal-completes (a ∷ b ∷ c ∷ d ∷ e ∷ more) = wrong_isnt

number-completes : (rest : List ℕ) → in_number rest ≡ progress.Partial → Completion (38 ∷ 35 ∷ rest)
number-completes [] = λ h. decimal-completes [] refl
number-completes (a ∷ rest) =
    cond_both (a == 120) _ _ (λ p. p ≡ progress.Partial → Completion (38 ∷ 35 ∷ a ∷ rest))
    (λ e h. subst (λ x. Completion (38 ∷ 35 ∷ x ∷ rest)) (sym (eqb-true a 120 e)) (hexadecimal-completes rest h))
    (λ _. decimal-completes (a ∷ rest))

pub completes : (text : List ℕ) → progress_of text ≡ progress.Partial → Completion text
completes [] = named-completes []
completes (a ∷ []) = named-completes (a ∷ [])
completes (a ∷ b ∷ rest) =
    cond_both (a == 38 && b == 35) _ _ (λ p. p ≡ progress.Partial → Completion (a ∷ b ∷ rest))
    (λ e h. let parts = and_parts (a == 38) (b == 35) e in
    subst (λ x. Completion (x ∷ b ∷ rest)) (sym (eqb-true a 38 parts.0)) (subst (λ x. Completion (38 ∷ x ∷ rest)) (sym (eqb-true b 35 parts.1)) (number-completes rest h)))
    (λ _. named-completes (a ∷ b ∷ rest))
