-- Lines with their line feeds, cut off one at a time from the front of a file.
use Rattle.std.proofs.Common.{inl, inr, ◌≡◌, ℕ, zero, suc, ◌+◌, ◌<◌, Bool, true, false, eqb, List, [], ◌∷◌, length, take, drop, get_or, refl, sym, ap, ◌∙◌, arith}
use Rattle.std.proofs.lemmas.Bool.{cases_Bool}
use Rattle.std.proofs.Math.ListN.{drop_of_length-le}
use Rattle.std.proofs.Math.Seq.{take-length}
use Rattle.std.proofs.lemmas.List.{drop-drop}
use Rattle.std.specs.Prelude.{not, ◌||◌}
use Rattle.std.specs.List.{concat, onto_first}
use Rattle.vu_tags.specs.Lines.{is_bullet, is_fence, lines_of}
use Rattle.vu_tags.specs.Statements.{further_lines}

-- a line that ends at the first line feed
pub lines_of-fed : (text : List ℕ) (end : ℕ) → end < length text → eqb (get_or text end 0) 10 ≡ true → ((k : ℕ) → k < end → eqb (get_or text k 0) 10 ≡ false)
    → lines_of text ≡ take (end + 1) text ∷ lines_of (drop (end + 1) text)
lines_of-fed [] end within here before = absurd (omega arith)
lines_of-fed (b ∷ bs) zero within here before = rw here refl
lines_of-fed (b ∷ bs) (suc end) within here before =
    let first : eqb b 10 ≡ false = before 0 (omega arith) in
    let rest = lines_of-fed bs end (omega arith) here (λ k below. before (suc k) (omega arith)) in
    let n : suc end + 1 ≡ suc (end + 1) = omega arith in
    rw (first, n) (ap (onto_first b) rest)

-- a text with no line feed is one line
lines_of-unfed : (text : List ℕ) → 0 < length text → ((k : ℕ) → k < length text → eqb (get_or text k 0) 10 ≡ false) → lines_of text ≡ text ∷ []
lines_of-unfed [] some none = absurd (omega arith)
lines_of-unfed (b ∷ []) some none = rw (none 0 (omega arith)) refl
lines_of-unfed (b ∷ c ∷ bs) some none =
    let first : eqb b 10 ≡ false = none 0 (omega arith) in
    rw first (ap (onto_first b) (lines_of-unfed (c ∷ bs) (omega arith) (λ k below. none (suc k) (omega arith))))

pub lines_of-last : (text : List ℕ) → 0 < length text → ((k : ℕ) → k < length text → eqb (get_or text k 0) 10 ≡ false)
    → lines_of text ≡ take (length text) text ∷ lines_of (drop (length text) text)
lines_of-last text some none =
    lines_of-unfed text some none
    ∙ ap (λ (line : List ℕ). line ∷ []) (sym (take-length text))
    ∙ ap (λ (rest : List ℕ). take (length text) text ∷ lines_of rest) (sym (drop_of_length-le text (omega arith)))

pub is_false : (b : Bool) → (b ≡ true → ⊥) → b ≡ false
is_false true h = absurd (h refl)
is_false false h = refl

concat-onto_first : (byte : ℕ) (lines : List (List ℕ)) → concat (onto_first byte lines) ≡ byte ∷ concat lines
concat-onto_first byte [] = refl
concat-onto_first byte (line ∷ lines) = refl

-- joined, the lines are the file
pub lines_join : (text : List ℕ) → concat (lines_of text) ≡ text
lines_join [] = refl
lines_join (b ∷ bs) =
    elim (cases_Bool (eqb b 10)) [
      | inl fed ↦ rw fed (ap (λ (rest : List ℕ). b ∷ rest) (lines_join bs))
      | inr plain ↦ rw plain (concat-onto_first b (lines_of bs) ∙ ap (λ (rest : List ℕ). b ∷ rest) (lines_join bs))
    ]

not-true : (b : Bool) → not b ≡ true → b ≡ false
not-true true h = cc
not-true false h = refl

-- a statement goes on with the next line
pub further-on : (text : List ℕ) (at len : ℕ) → lines_of (drop at text) ≡ take len (drop at text) ∷ lines_of (drop len (drop at text))
    → not (is_bullet (take len (drop at text)) || is_fence (take len (drop at text))) ≡ true
    → further_lines (lines_of (drop at text)) ≡ take len (drop at text) ∷ further_lines (lines_of (drop (at + len) text))
further-on text at len first goes =
    ap further_lines first ∙ rw (not-true _ goes) (ap (λ (rest : List ℕ). take len (drop at text) ∷ further_lines (lines_of rest)) (drop-drop len at text))
