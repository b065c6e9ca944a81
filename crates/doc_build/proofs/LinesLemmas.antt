-- What kept lines give, one after another.
use Rattle.std.proofs.Common.{inl, inr, ◌≡◌, ◌∙◌, refl, sym, ap, ℕ, ◌+◌, ◌<◌, Bool, true, false, cond, List, [], ◌∷◌, ◌++◌, length, map, drop, filter, All, get_or, append_assoc}
use Rattle.std.specs.List.{enumerate_from, flat_map}
use Rattle.std.proofs.lemmas.Bool.{cases_Bool}
use Rattle.std.proofs.lemmas.List.{drop_more}
use Rattle.std.proofs.lemmas.List.Elements.{All-head, All-tail}
use Rattle.vkb_text.specs.Spans.{slice_at}
use Rattle.doc_cond.specs.declared.LineKind.{LineKind}
use Rattle.doc_tree.specs.declared.DocLine.{DocLine}
use Rattle.doc_tree.specs.declared.Document.{Document}
use Rattle.doc_tree.specs.Flat.{is_kept}
use Rattle.doc_tree.specs.Loaded.{flat_line, rounds_of}
use Rattle.doc_build.specs.declared.Piece.{Piece}
use Rattle.doc_build.specs.Choices.{PageLine}
use Rattle.doc_build.specs.Keeping.{KeepsLines, line_met}
use Rattle.doc_build.specs.Lines.{line_pieces, pieces_kept}
use Rattle.doc_build.specs.Pieces.{kept_lines, pieces_among, pieces_at}

module _ (pages : LineKind → List PageLine) (text : List ℕ) (made : List Bool) where
  -- what the kept ones of lines give, of which the first has a number
  abbrev pub kept_from : ℕ → List DocLine → List Piece
  kept_from number lines = flat_map (line_pieces pages text) (filter (λ p. line_met made p.1) (enumerate_from number lines))

  -- one line that is kept
  pub kept-next : (lines : List DocLine) (number : ℕ) (line : DocLine) (bytes : List ℕ) (old new whole : List Piece) → number < length lines → line ≡ get_or lines number line
      → bytes ≡ slice_at text line.line.span → line_met made line ≡ true → new ≡ old ++ pieces_at pages number bytes line.kind
      → old ++ kept_from number (drop number lines) ≡ whole → new ++ kept_from (number + 1) (drop (number + 1) lines) ≡ whole
  kept-next lines number line bytes old new whole within is read kept put was =
      let rest = drop (number + 1) lines in
      let lines_are : drop number lines ≡ line ∷ rest = drop_more lines number line within ∙ ap (λ (l : DocLine). l ∷ rest) (sym is) in
      let first : kept_from number (drop number lines) ≡ pieces_at pages number bytes line.kind ++ kept_from (number + 1) rest =
      ap (kept_from number) lines_are
      ∙ ap (λ (b : Bool). flat_map (line_pieces pages text) (cond b ((number, line) ∷ filter (λ p. line_met made p.1) (enumerate_from (number + 1) rest)) (filter (λ p. line_met made p.1) (enumerate_from (number + 1) rest)))) kept
      ∙ ap (λ (bs : List ℕ). pieces_at pages number bs line.kind ++ kept_from (number + 1) rest) (sym read) in
      ap (λ (ps : List Piece). ps ++ kept_from (number + 1) rest) put
      ∙ append_assoc old (pieces_at pages number bytes line.kind) (kept_from (number + 1) rest)
      ∙ ap (λ (ps : List Piece). old ++ ps) (sym first) ∙ was

  -- one line that isn't
  pub left-next : (lines : List DocLine) (number : ℕ) (line : DocLine) (old whole : List Piece) → number < length lines → line ≡ get_or lines number line
      → line_met made line ≡ false → old ++ kept_from number (drop number lines) ≡ whole → old ++ kept_from (number + 1) (drop (number + 1) lines) ≡ whole
  left-next lines number line old whole within is left was =
      let rest = drop (number + 1) lines in
      let lines_are : drop number lines ≡ line ∷ rest = drop_more lines number line within ∙ ap (λ (l : DocLine). l ∷ rest) (sym is) in
      let first : kept_from number (drop number lines) ≡ kept_from (number + 1) rest =
      ap (kept_from number) lines_are
      ∙ ap (λ (b : Bool). flat_map (line_pieces pages text) (cond b ((number, line) ∷ filter (λ p. line_met made p.1) (enumerate_from (number + 1) rest)) (filter (λ p. line_met made p.1) (enumerate_from (number + 1) rest)))) left in
      ap (λ (ps : List Piece). old ++ ps) (sym first) ∙ was

  -- lines of a document that are kept, by its flat lines
  pub kept-flat : (d : Document) (names : List (List ℕ)) (number : ℕ) (lines : List DocLine) → All (λ line. line_met made line ≡ is_kept names (flat_line text d.files (rounds_of d) line)) lines
      → kept_from number lines ≡ pieces_among pages (filter (λ p. is_kept names p.1) (enumerate_from number (map (flat_line text d.files (rounds_of d)) lines)))
  kept-flat d names number [] same = refl
  kept-flat d names number (line ∷ lines) same =
      let P : DocLine → Type 0 = λ l. line_met made l ≡ is_kept names (flat_line text d.files (rounds_of d) l) in
      let flat = flat_line text d.files (rounds_of d) line in
      let here = All-head P line lines same in
      let rest = kept-flat d names (number + 1) lines (All-tail P line lines same) in
      elim (cases_Bool (is_kept names flat)) [
        | inl is ↦ let met : line_met made line ≡ true = here ∙ is in rw (met, is) (ap (λ (ps : List Piece). line_pieces pages text (number, line) ++ ps) rest)
        | inr isnt ↦ let met : line_met made line ≡ false = here ∙ isnt in rw (met, isnt) rest
      ]

-- the kept lines of a document
pub pieces-kept : (pages : LineKind → List PageLine) (text : List ℕ) (made : List Bool) (d : Document) (names : List (List ℕ)) → KeepsLines names text d made
    → pieces_kept pages text made d.lines ≡ pieces_among pages (kept_lines names (map (flat_line text d.files (rounds_of d)) d.lines))
pieces-kept pages text made d names keeps = kept-flat pages text made d names 0 d.lines keeps
