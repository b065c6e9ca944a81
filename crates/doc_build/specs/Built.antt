-- The text that is built at a choice of a registry's options.
use Rattle.std.specs.Prelude.{ℕ, Bool, List, [], ◌∷◌, ◌++◌, count_by}
use Rattle.std.specs.List.{flat_map}
use Rattle.std.specs.Str.{bytes_eq}
use Rattle.doc_tree.specs.Flat.{FlatLine}
use Rattle.reg_registry.specs.Rows.{Rows}
use Rattle.doc_build.specs.declared.Piece.{Piece}
use Rattle.doc_build.specs.Choices.{chosen_of}
use Rattle.doc_build.specs.Ids.{id_at}
use Rattle.doc_build.specs.Pages.{lines_given}
use Rattle.doc_build.specs.Pieces.{anchors_of, kept_lines, pieces_among}

-- the names that are set at a choice: those that always are, and the chosen options
abbrev pub set_names : List (List ℕ) → Rows → List Bool → List (List ℕ)
set_names always r chosen = always ++ chosen_of r.options chosen

-- the lines of the text, where the choice's closure has this set
abbrev pub choice_pieces : List (List ℕ) → Rows → List Bool → List Bool → List FlatLine → List Piece
choice_pieces always r chosen set lines = pieces_among (lines_given r chosen set) (kept_lines (set_names always r chosen) lines)

-- lines as a text: each with its end
abbrev pub text_of : List Piece → List ℕ
text_of pieces = flat_map (λ piece. piece.bytes ++ 10 ∷ []) pieces

-- the text
abbrev pub choice_text : List (List ℕ) → Rows → List Bool → List Bool → List FlatLine → List ℕ
choice_text always r chosen set lines = text_of (choice_pieces always r chosen set lines)

-- how many anchors of the text have this id there
abbrev pub choice_count : List (List ℕ) → Rows → List Bool → List Bool → List FlatLine → List ℕ → ℕ
choice_count always r chosen set lines id =
    count_by (λ anchor. bytes_eq id (id_at lines (set_names always r chosen) anchor.line anchor.id)) (anchors_of (choice_pieces always r chosen set lines))
