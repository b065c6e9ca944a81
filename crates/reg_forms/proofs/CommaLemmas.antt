-- The parts between the commas of a text.
use Rattle.std.proofs.Common.{◌≡◌, ℕ, zero, suc, ◌<◌, ◌==◌, true, List, [], ◌∷◌, length, take, drop, get_or, refl, ap, ◌∙◌, arith}
use Rattle.std.proofs.lemmas.Bool.{cond-true, cond-false}
use Rattle.reg_forms.specs.Attributes.{parts_of, with_byte}
use Rattle.reg_forms.proofs.FrontLemmas.{Lacks, first_lacks, rest_lacks}

-- a text whose first comma stands there
pub parts-cut : (text : List ℕ) (at : ℕ) → at < length text → Lacks 44 at text → get_or text at 0 == 44 ≡ true → parts_of text ≡ take at text ∷ parts_of (drop (suc at) text)
parts-cut [] at within lacks comma = absurd (omega (arith, within))
parts-cut (byte ∷ rest) zero within lacks comma = cond-true (byte == 44) _ _ comma
parts-cut (byte ∷ rest) (suc n) within lacks comma =
    cond-false (byte == 44) _ _ (first_lacks 44 byte rest n lacks)
    ∙ ap (with_byte byte) (parts-cut rest n (omega (arith, within)) (rest_lacks 44 byte rest n lacks) comma)

-- a text without a comma
pub parts-whole : (text : List ℕ) → Lacks 44 (length text) text → parts_of text ≡ text ∷ []
parts-whole [] lacks = refl
parts-whole (byte ∷ rest) lacks =
    cond-false (byte == 44) _ _ (first_lacks 44 byte rest (length rest) lacks)
    ∙ ap (with_byte byte) (parts-whole rest (rest_lacks 44 byte rest (length rest) lacks))
