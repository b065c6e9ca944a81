-- What the kept lines of a loaded document give, as the code goes over them: for private contracts alone.
use Rattle.std.specs.Prelude.{ℕ, Bool, List, filter}
use Rattle.std.specs.List.{enumerate_from, flat_map}
use Rattle.vkb_text.specs.Spans.{IsWithin as IsSpanWithin, slice_at}
use Rattle.doc_cond.specs.Lines.{IsWithin as IsKindWithin}
use Rattle.doc_cond.specs.declared.LineKind.{LineKind}
use Rattle.doc_tree.specs.declared.DocLine.{DocLine}
use Rattle.doc_build.specs.declared.Piece.{Piece}
use Rattle.doc_build.specs.Choices.{PageLine}
use Rattle.doc_build.specs.Keeping.{line_met}
use Rattle.doc_build.specs.Pieces.{pieces_at}

-- the line lies in the buffer, and the places that its kind names in the line
pub record IsLineIn (text : List ℕ) (l : DocLine) : Type 0 where
  pub span : IsSpanWithin text l.line.span
  pub kind : IsKindWithin (slice_at text l.line.span) l.kind

-- what a line gives, with its place from 0
abbrev pub line_pieces : (LineKind → List PageLine) → List ℕ → ℕ × DocLine → List Piece
line_pieces pages text p = pieces_at pages p.0 (slice_at text p.1.line.span) p.1.kind

-- what the kept lines give
abbrev pub pieces_kept : (LineKind → List PageLine) → List ℕ → List Bool → List DocLine → List Piece
pieces_kept pages text made lines = flat_map (line_pieces pages text) (filter (λ p. line_met made p.1) (enumerate_from 0 lines))
