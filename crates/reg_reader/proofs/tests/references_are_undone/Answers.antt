use Rattle.std.proofs.Common.{[], ◌∷◌, arith, refl}
use Rattle.reg_reader.specs.Markup.{IsReference, IsCharacters}
use Rattle.reg_reader.proofs.tests.references_are_undone.Goals as goal

-- `a &lt; &#65;` has characters
text : IsCharacters (97 ∷ 32 ∷ 38 ∷ 108 ∷ 116 ∷ 59 ∷ 32 ∷ 38 ∷ 35 ∷ 54 ∷ 53 ∷ 59 ∷ []) 60 0 12 (97 ∷ 32 ∷ 60 ∷ 32 ∷ 65 ∷ [])
text =
    IsCharacters.reference {j = 7} {k = 12} {n = 65}
    (IsCharacters.plain {j = 6}
    (IsCharacters.reference {j = 2} {k = 6} {n = 60}
    (IsCharacters.plain {j = 1} (IsCharacters.plain {j = 0} IsCharacters.none (omega arith) (λ e. omega arith) (λ e. omega arith) (λ e. omega arith)) (omega arith) (λ e. omega arith) (λ e. omega arith) (λ e. omega arith))
    (omega arith) IsReference.less)
    (omega arith) (λ e. omega arith) (λ e. omega arith) (λ e. omega arith))
    (omega arith) (IsReference.decimal (54 ∷ 53 ∷ []) refl (omega arith) (omega arith) (omega arith) (omega arith))

pub chars_of-requires-clause-part : goal.chars_of-requires-clause-part
chars_of-requires-clause-part g c = (60, 97 ∷ 32 ∷ 60 ∷ 32 ∷ 65 ∷ [], text)
