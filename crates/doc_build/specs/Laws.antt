-- What the laws about choices, pieces and ids say.
use Rattle.std.specs.Prelude.{◌≡◌, ◌⊎◌, ℕ, ◌<◌, ◌==◌, Bool, false, List, [], ◌∷◌, ◌++◌, map, filter, slice_get, slice_index_or, Some, All, if◌then◌else◌}
use Rattle.std.specs.List.{flat_map}
use Rattle.vkb_formula.specs.declared.name_table.NameId.{NameId}
use Rattle.doc_cond.specs.declared.LineKind.TheVariants.{Api}
use Rattle.doc_tree.specs.Flat.{FlatLine, is_among, is_kept}
use Rattle.doc_tree.specs.Names.{names_in}
use Rattle.reg_registry.specs.Rows.{Rows, bare_rows, id_of}
use Rattle.reg_closure.specs.Closure.{IsClosure, IsInClosure}
use Rattle.doc_build.specs.declared.Piece.{Piece}
use Rattle.doc_build.specs.declared.Place.{Place}
use Rattle.doc_build.specs.Built.{choice_pieces, choice_text, set_names}
use Rattle.doc_build.specs.Choices.{Choice}
use Rattle.doc_build.specs.Ids.{page_set}
use Rattle.doc_build.specs.Pages.{anchor_line, lines_given}
use Rattle.doc_build.specs.Pieces.{Anchor, anchors_of, page_piece, pieces_at}

-- whether the line at a place, from 0, is kept where some names are set; where no line stands, none is
abbrev pub is_kept_at : List (List ℕ) → List FlatLine → ℕ → Bool
is_kept_at set lines place = slice_index_or (map (is_kept set) lines) place false

-- a place stands before another: by its flat line, then by its statement, then by its byte
abbrev pub IsBefore : Place → Place → Type 0
IsBefore place other =
    (place.line < other.line)
    ⊎ ((place.line ≡ other.line) × ((place.statement < other.statement) ⊎ ((place.statement ≡ other.statement) × (place.at < other.at))))

-- no line sets the page
abbrev pub SetsNoPage : List FlatLine → Type 0
SetsNoPage lines = All (λ line. page_set line.kind ≡ []) lines

-- ---- the text at a choice

-- what a text has of a flat line
abbrev pub of_line : ℕ → List Piece → List Piece
of_line number pieces = filter (λ piece. piece.line == number) pieces

-- A text has of each flat line what the line gives, where the line is kept, and else nothing.
abbrev pub LinesStandWhereKept : Type 0
LinesStandWhereKept =
    (always : List (List ℕ)) (r : Rows) (chosen set : List Bool) (lines : List FlatLine) (number : ℕ) (line : FlatLine) → slice_get lines number ≡ Some line
    → of_line number (choice_pieces always r chosen set lines)
    ≡ (if is_kept (set_names always r chosen) line then pieces_at (lines_given r chosen set) number line.bytes line.kind else [])

-- the anchors that the include of a name's declaration gives at a choice
abbrev pub api_anchors : Rows → List Bool → List Bool → ℕ → List ℕ → List ℕ → List Anchor
api_anchors r chosen set number line name = anchors_of (pieces_at (lines_given r chosen set) number line (Api name))

-- The include of a declared name gives the anchor of its page exactly where the closure has the name, and no other anchor.
pub record AnchorsFollowTheClosure : Type 0 where
  pub there : (r : Rows) (chosen set : List Bool) (number : ℕ) (line name : List ℕ) (id : NameId) → IsClosure r chosen set → id_of r.names name ≡ Some id
      → IsInClosure r chosen id.0 → api_anchors r chosen set number line name ≡ anchors_of (page_piece number (anchor_line name) ∷ [])
  pub absent : (r : Rows) (chosen set : List Bool) (number : ℕ) (line name : List ℕ) (id : NameId) → IsClosure r chosen set → id_of r.names name ≡ Some id
      → ¬ IsInClosure r chosen id.0 → api_anchors r chosen set number line name ≡ []

-- the names that the conditions of a line ask for: its own, and those round it
abbrev pub names_asked : FlatLine → List (List ℕ)
names_asked line = names_in line.kind ++ flat_map (λ condition. condition.names) line.round

-- two choices of these options set the same of these names
abbrev pub SetAlike : List (List ℕ) → List (List ℕ) → Choice → Choice → List (List ℕ) → Type 0
SetAlike always options one other names =
    All (λ name. is_among (set_names always (bare_rows options) one) name ≡ is_among (set_names always (bare_rows options) other) name) names

-- Over no registry, choices that set the same of the names that a document asks for give the same text.
abbrev pub TextsAreOfNamesAsked : Type 0
TextsAreOfNamesAsked =
    (always options : List (List ℕ)) (lines : List FlatLine) (one other : Choice) (set also : List Bool)
    → All (λ line. SetAlike always options one other (names_asked line)) lines
    → choice_text always (bare_rows options) one set lines ≡ choice_text always (bare_rows options) other also lines
