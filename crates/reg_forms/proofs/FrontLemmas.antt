-- The part of a text before the first byte that is a given one.
use Rattle.std.proofs.Common.{◌≡◌, ℕ, zero, suc, ◌<◌, ◌==◌, List, [], ◌∷◌, true, false, length, take, get_or, refl, sym, ap, ◌∙◌, arith}
use Rattle.std.proofs.lemmas.Bool.{cond-true, cond-false, false_from_ne_true}
use Rattle.reg_forms.specs.Attributes.{before}

-- none of so many first bytes is this one
abbrev pub Lacks : ℕ → ℕ → List ℕ → Type 0
Lacks stop n text = (k : ℕ) → k < n → (get_or text k 0 == stop ≡ true → ⊥)

pub first_lacks : (stop byte : ℕ) (rest : List ℕ) (n : ℕ) → Lacks stop (suc n) (byte ∷ rest) → byte == stop ≡ false
first_lacks stop byte rest n lacks = false_from_ne_true _ (lacks 0 (omega arith))

pub rest_lacks : (stop byte : ℕ) (rest : List ℕ) (n : ℕ) → Lacks stop (suc n) (byte ∷ rest) → Lacks stop n rest
rest_lacks stop byte rest n lacks k few = lacks (suc k) (omega (arith, few))

-- a text in which the first one stands there
pub front-cut : (stop : ℕ) (text : List ℕ) (at : ℕ) → at < length text → Lacks stop at text → get_or text at 0 == stop ≡ true → take at text ≡ before stop text
front-cut stop [] at within lacks found = absurd (omega (arith, within))
front-cut stop (byte ∷ rest) zero within lacks found = sym (cond-true (byte == stop) [] (byte ∷ before stop rest) found)
front-cut stop (byte ∷ rest) (suc n) within lacks found =
    ap (λ part. byte ∷ part) (front-cut stop rest n (omega (arith, within)) (rest_lacks stop byte rest n lacks) found)
    ∙ sym (cond-false (byte == stop) [] (byte ∷ before stop rest) (first_lacks stop byte rest n lacks))

-- how long that part is
pub front-length : (stop : ℕ) (text : List ℕ) (at : ℕ) → at < length text → Lacks stop at text → get_or text at 0 == stop ≡ true → at ≡ length (before stop text)
front-length stop [] at within lacks found = absurd (omega (arith, within))
front-length stop (byte ∷ rest) zero within lacks found = sym (ap length (cond-true (byte == stop) [] (byte ∷ before stop rest) found))
front-length stop (byte ∷ rest) (suc n) within lacks found =
    ap suc (front-length stop rest n (omega (arith, within)) (rest_lacks stop byte rest n lacks) found)
    ∙ sym (ap length (cond-false (byte == stop) [] (byte ∷ before stop rest) (first_lacks stop byte rest n lacks)))

-- a text without one
pub front-whole : (stop : ℕ) (text : List ℕ) → Lacks stop (length text) text → text ≡ before stop text
front-whole stop [] lacks = refl
front-whole stop (byte ∷ rest) lacks =
    ap (λ part. byte ∷ part) (front-whole stop rest (rest_lacks stop byte rest (length rest) lacks))
    ∙ sym (cond-false (byte == stop) [] (byte ∷ before stop rest) (first_lacks stop byte rest (length rest) lacks))
