-- Texts that are put behind a text one after another.
use Rattle.std.proofs.Common.{◌≡◌, ℕ, List, [], ◌∷◌, ◌++◌, sym, ap, ◌∙◌, append_assoc}
use Rattle.std.specs.List.{concat}
use Rattle.std.proofs.lemmas.List.{append-nil}
use Rattle.std.proofs.lemmas.List.Folds.{concat-append}

-- a text with pieces put behind it
abbrev pub with_pieces : List ℕ → List (List ℕ) → List ℕ
with_pieces text [] = text
with_pieces text (piece ∷ pieces) = with_pieces (text ++ piece) pieces

pub joined : (text : List ℕ) (pieces : List (List ℕ)) → with_pieces text pieces ≡ text ++ concat pieces
joined text [] = sym (append-nil text)
joined text (piece ∷ pieces) = joined (text ++ piece) pieces ∙ append_assoc text piece (concat pieces)

-- two lists of pieces, one behind the other
pub joined_two : (text : List ℕ) (front back : List (List ℕ)) → (text ++ concat front) ++ concat back ≡ text ++ concat (front ++ back)
joined_two text front back = append_assoc text (concat front) (concat back) ∙ ap (λ (t : List ℕ). text ++ t) (sym (concat-append front back))

-- pieces, other pieces, and one more piece
pub between : (text : List ℕ) (front middle : List (List ℕ)) (last : List ℕ)
    → (with_pieces text front ++ concat middle) ++ last ≡ text ++ concat (front ++ (middle ++ last ∷ []))
between text front middle last =
    let put = with_pieces text front in
    let inner : (put ++ concat middle) ++ last ≡ put ++ concat (middle ++ last ∷ []) =
    ap (λ (t : List ℕ). (put ++ concat middle) ++ t) (sym (append-nil last)) ∙ joined_two put middle (last ∷ []) in
    inner ∙ ap (λ (t : List ℕ). t ++ concat (middle ++ last ∷ [])) (joined text front) ∙ joined_two text front (middle ++ last ∷ [])

-- a piece with a number in it, and two more
pub spliced : (text front number back middle last : List ℕ)
    → ((text ++ (front ++ (number ++ back))) ++ middle) ++ last ≡ text ++ (front ++ (number ++ (back ++ (middle ++ last))))
spliced text front number back middle last = simp append_assoc

-- a piece with two numbers in it, and another and one with a number in it
pub spliced_more : (text front number inner second back middle near third last : List ℕ)
    → ((text ++ (front ++ (number ++ (inner ++ (second ++ back))))) ++ middle) ++ (near ++ (third ++ last))
    ≡ text ++ (front ++ (number ++ (inner ++ (second ++ (back ++ (middle ++ (near ++ (third ++ last))))))))
spliced_more text front number inner second back middle near third last = simp append_assoc
