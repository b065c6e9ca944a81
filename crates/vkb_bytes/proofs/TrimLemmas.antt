-- One byte of a text whose white bytes are taken away.
use Rattle.std.proofs.Common.{◌≡◌, ℕ, ◌+◌, ◌-◌, ◌<◌, true, false, List, [], ◌∷◌, ◌++◌, length, take, drop, cond, get_or, ap, ◌∙◌, append_assoc, sym}
use Rattle.std.proofs.lemmas.List.{drop_more, length-drop}
use Rattle.std.proofs.Math.Seq.{take-length}
use Rattle.vkb_bytes.specs.Bytes.{is_white}
use Rattle.vkb_bytes.specs.Trimming.{begins_white, spaced}

-- what a slice to the end is
rest_at : (text : List ℕ) (n : ℕ) → take (length text - n) (drop n text) ≡ drop n text
rest_at text n = ap (λ k. take k (drop n text)) (sym (length-drop n text)) ∙ take-length (drop n text)

head_at : (text : List ℕ) (i : ℕ) → i < length text → drop i text ≡ get_or text i 0 ∷ drop (i + 1) text
head_at text i h = drop_more text i 0 h

-- what was made of the bytes before a place, and is made of those from there on
pub spaced_word : (made text : List ℕ) (i : ℕ) → i < length text → is_white (get_or text i 0) ≡ false → (made ++ get_or text i 0 ∷ []) ++ spaced (drop (i + 1) text) ≡ made ++ spaced (drop i text)
spaced_word made text i h word =
    append_assoc made (get_or text i 0 ∷ []) (spaced (drop (i + 1) text))
    ∙ ap (λ xs. made ++ xs) (sym (ap spaced (head_at text i h) ∙ ap (λ t. cond t (cond (begins_white (drop (i + 1) text)) (spaced (drop (i + 1) text)) (32 ∷ spaced (drop (i + 1) text))) (get_or text i 0 ∷ spaced (drop (i + 1) text))) word))

pub spaced_last : (made text : List ℕ) (i : ℕ) → i < length text → is_white (get_or text i 0) ≡ true → begins_white (take (length text - (i + 1)) (drop (i + 1) text)) ≡ false → (made ++ 32 ∷ []) ++ spaced (drop (i + 1) text) ≡ made ++ spaced (drop i text)
spaced_last made text i h white last =
    append_assoc made (32 ∷ []) (spaced (drop (i + 1) text))
    ∙ ap (λ xs. made ++ xs) (sym (ap spaced (head_at text i h)
    ∙ ap (λ t. cond t (cond (begins_white (drop (i + 1) text)) (spaced (drop (i + 1) text)) (32 ∷ spaced (drop (i + 1) text))) (get_or text i 0 ∷ spaced (drop (i + 1) text))) white
    ∙ ap (λ t. cond t (spaced (drop (i + 1) text)) (32 ∷ spaced (drop (i + 1) text))) (sym (ap begins_white (rest_at text (i + 1))) ∙ last)))

pub spaced_before : (made text : List ℕ) (i : ℕ) → i < length text → is_white (get_or text i 0) ≡ true → begins_white (take (length text - (i + 1)) (drop (i + 1) text)) ≡ true → made ++ spaced (drop (i + 1) text) ≡ made ++ spaced (drop i text)
spaced_before made text i h white more =
    ap (λ xs. made ++ xs) (sym (ap spaced (head_at text i h)
    ∙ ap (λ t. cond t (cond (begins_white (drop (i + 1) text)) (spaced (drop (i + 1) text)) (32 ∷ spaced (drop (i + 1) text))) (get_or text i 0 ∷ spaced (drop (i + 1) text))) white
    ∙ ap (λ t. cond t (spaced (drop (i + 1) text)) (32 ∷ spaced (drop (i + 1) text))) (sym (ap begins_white (rest_at text (i + 1))) ∙ more)))
