-- The text that is built for a choice, piece by piece, with its anchors and links.
use Rattle.std.specs.Prelude.{ℕ, ◌+◌, Bool, true, false, not, List, [], ◌∷◌, map, filter, count_by, slice_range, if◌then◌else◌}
use Rattle.std.specs.List.{flat_map, enumerate_from}
use Rattle.std.specs.Str.{bytes_eq}
use Rattle.doc_marks.specs.Marks.{marks_of}
use Rattle.doc_marks.specs.declared.Mark.{Mark}
use Rattle.doc_cond.specs.declared.LineKind.{LineKind}
use Rattle.doc_cond.specs.declared.LineKind.TheVariants.{Plain, Comment, Other, OneLine, Refpage, Begin, Close, Chapter, Api, Validity}
use Rattle.doc_tree.specs.Flat.{FlatLine, is_kept}
use Rattle.doc_build.specs.declared.Piece.{Piece}
use Rattle.doc_build.specs.declared.Place.{Place}
use Rattle.doc_build.specs.Choices.{Choice, PageLine, Setting, names_set}
use Rattle.doc_build.specs.Ids.{id_at}

-- a line as it stands
abbrev pub whole_piece : ℕ → Bool → List ℕ → Piece
whole_piece number marked line = record { line = number; statement = 0; start = 0; marked = marked; bytes = line }

-- a line of a generated page
abbrev pub page_piece : ℕ → PageLine → Piece
page_piece number given = record { line = number; statement = given.statement; start = 0; marked = given.marked; bytes = given.bytes }

-- What a flat line gives: itself, a one-line form its text, and an include of a generated page what the pages give for it. Openers,
-- closers and the includes of chapters give nothing of their own.
abbrev pub pieces_at : (LineKind → List PageLine) → ℕ → List ℕ → LineKind → List Piece
pieces_at pages number line Plain = whole_piece number true line ∷ []
pieces_at pages number line Comment = whole_piece number false line ∷ []
pieces_at pages number line Other = whole_piece number false line ∷ []
pieces_at pages number line (Refpage name) = whole_piece number false line ∷ []
pieces_at pages number line (OneLine negated any names from to) = record { line = number; statement = 0; start = from; marked = true; bytes = slice_range line from to } ∷ []
pieces_at pages number line (Api name) = map (page_piece number) (pages (Api name))
pieces_at pages number line (Validity name) = map (page_piece number) (pages (Validity name))
pieces_at pages number line (Begin negated any names) = []
pieces_at pages number line (Close any names) = []
pieces_at pages number line (Chapter file) = []

-- what flat lines give, in order, each with its place from 0
abbrev pub pieces_among : (LineKind → List PageLine) → List (ℕ × FlatLine) → List Piece
pieces_among pages placed = flat_map (λ p. pieces_at pages p.0 p.1.bytes p.1.kind) placed

-- the lines that are kept where some names are set, each with its place from 0
abbrev pub kept_lines : List (List ℕ) → List FlatLine → List (ℕ × FlatLine)
kept_lines set lines = filter (λ p. is_kept set p.1) (enumerate_from 0 lines)

-- the built text at a choice: what the kept lines give there, in order
abbrev pub pieces_of : Setting → List FlatLine → Choice → List Piece
pieces_of setting lines choice = pieces_among (setting.pages.given choice) (kept_lines (names_set setting choice) lines)

-- what all lines give at some choice or other
abbrev pub all_pieces : Setting → List FlatLine → List Piece
all_pieces setting lines = pieces_among setting.pages.all (enumerate_from 0 lines)

-- the marks that are read in a piece
abbrev pub marks_in : Piece → List Mark
marks_in piece = if piece.marked then marks_of piece.bytes else []

-- a mark's id in a line, as it is written
abbrev pub id_in : List ℕ → Mark → List ℕ
id_in line mark = slice_range line mark.from mark.to

-- an anchor: the flat line that gives it, from 0, and its id as it is written
pub record Anchor : Type 0 where
  pub line : ℕ
  pub id : List ℕ

-- a link: its place, and its id as it is written
pub record Link : Type 0 where
  pub place : Place
  pub id : List ℕ

-- the anchor that a mark of a piece is
abbrev pub anchor_at : Piece → Mark → Anchor
anchor_at piece mark = record { line = piece.line; id = id_in piece.bytes mark }

-- the link that a mark of a piece is
abbrev pub link_at : Piece → Mark → Link
link_at piece mark = record {
  place = record { line = piece.line; statement = piece.statement; at = piece.start + mark.at };
  id = id_in piece.bytes mark;
}

-- all anchors of pieces, in order
abbrev pub anchors_of : List Piece → List Anchor
anchors_of pieces = flat_map (λ piece. map (anchor_at piece) (filter (λ mark. mark.anchor) (marks_in piece))) pieces

-- all links of pieces, in order
abbrev pub links_of : List Piece → List Link
links_of pieces = flat_map (λ piece. map (link_at piece) (filter (λ mark. not mark.anchor) (marks_in piece))) pieces

-- all links of a document, kept or not
abbrev pub all_links : Setting → List FlatLine → List Link
all_links setting lines = links_of (all_pieces setting lines)

-- the id of an anchor at a choice
abbrev pub anchor_id : Setting → List FlatLine → Choice → Anchor → List ℕ
anchor_id setting lines choice anchor = id_at lines (names_set setting choice) anchor.line anchor.id

-- the id of a link at a choice
abbrev pub link_id : Setting → List FlatLine → Choice → Link → List ℕ
link_id setting lines choice link = id_at lines (names_set setting choice) link.place.line link.id

-- how many anchors of the built text have this id there
abbrev pub count_of : Setting → List FlatLine → Choice → List ℕ → ℕ
count_of setting lines choice id = count_by (λ anchor. bytes_eq id (anchor_id setting lines choice anchor)) (anchors_of (pieces_of setting lines choice))
