-- The tag that a new piece has: what it is spelled with, and its number.
use Rattle.std.proofs.Common.{◌≡◌, ℕ, ◌+◌, ◌-◌, ◌*◌, ◌/◌, ◌%◌, ◌<◌, Bool, true, false, eqb, List, [], ◌∷◌, ◌++◌, Some, length, drop, refl, sym, ap, ◌∙◌, codes, append_assoc, length-append, arith}
use Rattle.std.proofs.lemmas.Bool.{and_parts, and_from}
use Rattle.std.proofs.lemmas.Bool.Decides.{nat_tests}
use Rattle.std.proofs.lemmas.List.{reverse-append}
use Rattle.std.proofs.lemmas.List.Folds.{list_all-append}
use Rattle.std.proofs.Math.Seq.{drop-append-add}
use Rattle.std.specs.Char.{digit_value}
use Rattle.std.specs.Prelude.{not, ◌&&◌}
use Rattle.std.specs.List.{list_all, prefix_len, suffix_len}
use Rattle.vkb_bytes.specs.Bytes.{is_word_byte}
use Rattle.vkb_bytes.specs.Numbers.{is_numeral, number_in, numeral_of}
use Rattle.vu_tags.specs.Tags.{is_misnumbered, is_tag_byte, last_part, number_of}
use Rattle.vu_tags.specs.Tagged.{digit_of, five_digits, new_tag}

and_false : (b : Bool) → (b && false) ≡ false
and_false true = refl
and_false false = refl

-- a byte that is a digit of that value
pub record IsDigitOf (byte value : ℕ) : Type 0 where
  pub worth : digit_value byte ≡ value
  pub small : value < 10
  pub no_dash : eqb byte 45 ≡ false
  pub in_tag : is_tag_byte byte ≡ true

pub digit_for : (value : ℕ) → value < 10 → IsDigitOf (48 + value) value
digit_for value small = record {
  worth = grind (arith, nat_tests);
  small = small;
  no_dash = grind (arith, nat_tests);
  in_tag = grind (arith, nat_tests);
}

module _ (a b c d e va vb vc vd ve : ℕ) (ia : IsDigitOf a va) (ib : IsDigitOf b vb) (ic : IsDigitOf c vc) (id : IsDigitOf d vd) (ie : IsDigitOf e ve) where
  abbrev five : List ℕ
  five = a ∷ b ∷ c ∷ d ∷ e ∷ []

  suffix_five : (front : List ℕ) → suffix_len (λ x. not (eqb x 45)) (front ++ 45 ∷ five) ≡ 5
  suffix_five front =
      ap (prefix_len (λ (x : ℕ). not (eqb x 45))) (reverse-append front (45 ∷ five))
      ∙ rw (ia.no_dash, ib.no_dash, ic.no_dash, id.no_dash, ie.no_dash) refl

  pub last_five : (front : List ℕ) → last_part (front ++ 45 ∷ five) ≡ five
  last_five front =
      let n : length (front ++ 45 ∷ five) - suffix_len (λ x. not (eqb x 45)) (front ++ 45 ∷ five) ≡ length front + 1 = omega (arith, suffix_five front, length-append front (45 ∷ five)) in
      ap (λ (k : ℕ). drop k (front ++ 45 ∷ five)) n ∙ drop-append-add front (45 ∷ five) 1

  numeral_five : is_numeral 10 five ≡ true
  numeral_five = grind (arith, nat_tests, ia.worth, ib.worth, ic.worth, id.worth, ie.worth, ia.small, ib.small, ic.small, id.small, ie.small)

  pub number_five : numeral_of 10 five ≡ Some (va * 10000 + (vb * 1000 + (vc * 100 + (vd * 10 + ve))))
  unfolding numeral_of
  number_five =
      let number : number_in 10 five ≡ va * 10000 + (vb * 1000 + (vc * 100 + (vd * 10 + ve))) = rw (ia.worth, ib.worth, ic.worth, id.worth, ie.worth) (omega arith) in
      rw numeral_five (ap (λ (n : ℕ). Some n) number)

-- bytes of a tag
pub word_in_tag : (b : ℕ) → is_word_byte b ≡ true → is_tag_byte b ≡ true
word_in_tag b word = rw word refl

pub words_in_tag : (text : List ℕ) → list_all is_word_byte text ≡ true → list_all is_tag_byte text ≡ true
words_in_tag [] each = refl
words_in_tag (b ∷ text) each = let parts = and_parts _ _ each in and_from _ _ (word_in_tag b parts.0) (words_in_tag text parts.1)

digit_in : (number power : ℕ) → IsDigitOf (digit_of number power) (number / power % 10)
digit_in number power = digit_for (number / power % 10) (omega arith)

pub new_tag_bytes : (page parameter : List ℕ) (number : ℕ) → list_all is_tag_byte page ≡ true → list_all is_tag_byte parameter ≡ true
    → list_all is_tag_byte (new_tag page parameter number) ≡ true
unfolding five_digits
new_tag_bytes page parameter number pages parameters =
    list_all-append is_tag_byte page _
    ∙ rw (pages, list_all-append is_tag_byte parameter (codes "-" ++ five_digits number), parameters, (digit_in number 10000).in_tag, (digit_in number 1000).in_tag, (digit_in number 100).in_tag, (digit_in number 10).in_tag, (digit_in number 1).in_tag) refl

pub new_tag_some : (page parameter : List ℕ) (number : ℕ) → 0 < length (new_tag page parameter number)
new_tag_some page parameter number = omega (arith, length-append page (codes "-" ++ (parameter ++ (codes "-" ++ five_digits number))))

-- its last part
dashed : (page parameter digits : List ℕ) → page ++ (codes "-" ++ (parameter ++ (codes "-" ++ digits))) ≡ (page ++ (codes "-" ++ parameter)) ++ 45 ∷ digits
dashed page parameter digits = sym (append_assoc page (codes "-" ++ parameter) (45 ∷ digits))

pub new_tag_last : (page parameter : List ℕ) (number : ℕ) → last_part (new_tag page parameter number) ≡ five_digits number
unfolding five_digits
new_tag_last page parameter number =
    ap last_part (dashed page parameter (five_digits number))
    ∙ last_five _ _ _ _ _ _ _ _ _ _ (digit_in number 10000) (digit_in number 1000) (digit_in number 100) (digit_in number 10) (digit_in number 1) (page ++ (codes "-" ++ parameter))

pub new_tag_well : (page parameter : List ℕ) (number : ℕ) → is_misnumbered (new_tag page parameter number) ≡ false
unfolding is_misnumbered five_digits
new_tag_well page parameter number = rw (new_tag_last page parameter number) (and_false _)

whole : (number : ℕ) → number < 100000
    → number / 10000 % 10 * 10000 + (number / 1000 % 10 * 1000 + (number / 100 % 10 * 100 + (number / 10 % 10 * 10 + number / 1 % 10))) ≡ number
whole number small = omega arith

pub new_tag_number : (page parameter : List ℕ) (number : ℕ) → number < 100000 → number_of (new_tag page parameter number) ≡ Some number
unfolding number_of five_digits
new_tag_number page parameter number small =
    rw (new_tag_last page parameter number)
    (number_five _ _ _ _ _ _ _ _ _ _ (digit_in number 10000) (digit_in number 1000) (digit_in number 100) (digit_in number 10) (digit_in number 1) ∙ ap (λ (n : ℕ). Some n) (whole number small))
