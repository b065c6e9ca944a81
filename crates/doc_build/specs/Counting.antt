-- How anchors are counted line by line: for private contracts alone.
use Rattle.std.specs.Prelude.{ℕ, ◌-◌, ◌^◌, ◌+◌, Bool, ◌&&◌, List, [], ◌∷◌, Option, count_by, if◌then◌else◌}
use Rattle.std.specs.List.{last_or}
use Rattle.std.specs.Str.{bytes_eq}
use Rattle.doc_marks.specs.declared.Mark.{Mark}
use Rattle.doc_cond.specs.declared.LineKind.{LineKind}
use Rattle.doc_tree.specs.declared.DocLine.{DocLine}
use Rattle.doc_build.specs.declared.Piece.{Piece}
use Rattle.doc_build.specs.Choices.{PageLine}
use Rattle.doc_build.specs.Ids.{filled, page_set}
use Rattle.doc_build.specs.Keeping.{line_met}
use Rattle.doc_build.specs.Lines.{line_pieces}
use Rattle.doc_build.specs.Pieces.{id_in, marks_in}

-- the most that is counted
abbrev pub most : ℕ
most = 2 ^ 64 - 1

-- the mark is an anchor of this id, where this is the page
abbrev pub is_anchor_of : Option (List ℕ) → List ℕ → List ℕ → Mark → Bool
is_anchor_of page id line mark = mark.anchor && bytes_eq id (filled page (id_in line mark))

-- the anchors of this id in a piece
abbrev pub piece_count : Option (List ℕ) → List ℕ → Piece → ℕ
piece_count page id piece = count_by (is_anchor_of page id piece.bytes) (marks_in piece)

-- in pieces
abbrev pub pieces_count : Option (List ℕ) → List ℕ → List Piece → ℕ
pieces_count page id [] = 0
pieces_count page id (piece ∷ pieces) = piece_count page id piece + pieces_count page id pieces

-- the page behind a kept line
abbrev pub page_behind : Option (List ℕ) → LineKind → Option (List ℕ)
page_behind page kind = last_or page (page_set kind)

-- the anchors of this id in what kept lines give, from a line on, where this is the page there
abbrev pub lines_count : (LineKind → List PageLine) → List ℕ → List Bool → List ℕ → Option (List ℕ) → ℕ → List DocLine → ℕ
lines_count pages text made id page number [] = 0
lines_count pages text made id page number (l ∷ lines) =
    if line_met made l then pieces_count page id (line_pieces pages text (number, l)) + lines_count pages text made id (page_behind page l.kind) (number + 1) lines
    else lines_count pages text made id page (number + 1) lines
