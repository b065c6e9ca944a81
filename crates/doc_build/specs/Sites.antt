-- The lines with marks that a document over a registry gives at some choice or other, each with what it takes to stand in the built text. They are
-- what is judged over all choices.
use Rattle.std.specs.Prelude.{◌≡◌, ℕ, ◌<◌, Bool, true, ◌&&◌, List, [], ◌∷◌, map, filter, length, slice_get, slice_range, Some, All, AllPairs, Contains}
use Rattle.std.specs.List.{enumerate_from, flat_map, list_all}
use Rattle.std.specs.Option.{option_map_or, option_to_list}
use Rattle.vkb_formula.specs.declared.name_table.NameId.{NameId}
use Rattle.reg_registry.specs.Rows.{Rows, id_of}
use Rattle.vu_implicit.specs.declared.statement.Statement.{Statement}
use Rattle.doc_cond.specs.declared.LineKind.{LineKind}
use Rattle.doc_cond.specs.declared.LineKind.TheVariants.{Plain, OneLine, Api, Validity}
use Rattle.doc_tree.specs.Flat.{FlatLine}
use Rattle.doc_build.specs.declared.Piece.{Piece}
use Rattle.doc_build.specs.Built.{choice_pieces, set_names}
use Rattle.doc_build.specs.Choices.{Choice}
use Rattle.doc_build.specs.Laws.{IsBefore, is_kept_at}
use Rattle.doc_build.specs.Pages.{anchor_line, has, numbered, statement_line}
use Rattle.doc_build.specs.Pieces.{Link, all_pieces, anchors_of, links_of, page_piece, whole_piece}
use Rattle.doc_build.specs.Settings.{registry_setting}

-- a line with marks, and the names that the closure must have for it
pub record Site : Type 0 where
  pub piece : Piece
  pub needs : List NameId

-- a line that stands wherever its flat line is kept
abbrev pub free_site : Piece → Site
free_site piece = record { piece = piece; needs = [] }

-- the anchor of a page, which needs the page's name
abbrev pub anchor_site : ℕ → List ℕ → NameId → Site
anchor_site number name id = record { piece = page_piece number (anchor_line name); needs = id ∷ [] }

-- a statement of a page, which needs the page's name, and the name that it needs itself, if there is one
abbrev pub statement_site : ℕ → NameId → ℕ × Statement → Site
statement_site number id p = record { piece = page_piece number (statement_line p); needs = id ∷ option_to_list p.1.needs }

-- the lines with marks that a flat line gives at some choice or other
abbrev pub sites_at : Rows → ℕ → List ℕ → LineKind → List Site
sites_at r number line Plain = free_site (whole_piece number true line) ∷ []
sites_at r number line (OneLine negated any names from to) =
    free_site (record { line = number; statement = 0; start = from; marked = true; bytes = slice_range line from to }) ∷ []
sites_at r number line (Api name) = option_map_or (λ id. anchor_site number name id ∷ []) (id_of r.names name) []
sites_at r number line (Validity name) = option_map_or (λ id. map (statement_site number id) (numbered r id)) (id_of r.names name) []
sites_at r number line _ = []

-- those of a document, in order
abbrev pub sites : Rows → List FlatLine → List Site
sites r lines = flat_map (λ p. sites_at r p.0 p.1.bytes p.1.kind) (enumerate_from 0 lines)

-- The line stands in the built text where these names are set and the closure has this set: its flat line is kept, and the closure has each name
-- that it needs.
abbrev pub is_standing : List (List ℕ) → List Bool → List FlatLine → Site → Bool
is_standing names set lines site = is_kept_at names lines site.piece.line && list_all (has set) site.needs

-- the lines themselves
abbrev pub pieces_of_sites : List Site → List Piece
pieces_of_sites places = map (λ site. site.piece) places

-- those that stand at a choice whose closure has this set
abbrev pub standing_pieces : List (List ℕ) → Rows → List Bool → List Bool → List FlatLine → List Piece
standing_pieces always r chosen set lines = pieces_of_sites (filter (is_standing (set_names always r chosen) set lines) (sites r lines))

-- ---- laws

-- The anchors and the links of a built text are those of the lines that stand in it, in order.
pub record MarksFollowTheChoice : Type 0 where
  pub anchors : (always : List (List ℕ)) (r : Rows) (chosen set : List Bool) (lines : List FlatLine)
      → anchors_of (choice_pieces always r chosen set lines) ≡ anchors_of (standing_pieces always r chosen set lines)
  pub links : (always : List (List ℕ)) (r : Rows) (chosen set : List Bool) (lines : List FlatLine)
      → links_of (choice_pieces always r chosen set lines) ≡ links_of (standing_pieces always r chosen set lines)

-- All that a document gives at some choice or other has the anchors and the links of these lines, in order.
pub record MarksAtSomeChoice : Type 0 where
  pub anchors : (always : List (List ℕ)) (r : Rows) (closure : Choice → List Bool) (lines : List FlatLine)
      → anchors_of (all_pieces (registry_setting always r closure) lines) ≡ anchors_of (pieces_of_sites (sites r lines))
  pub links : (always : List (List ℕ)) (r : Rows) (closure : Choice → List Bool) (lines : List FlatLine)
      → links_of (all_pieces (registry_setting always r closure) lines) ≡ links_of (pieces_of_sites (sites r lines))

-- Each is of a line of the document, and their links stand in the order of their places, so no two have the same place.
pub record SitesInOrder : Type 0 where
  pub within : (r : Rows) (lines : List FlatLine) → All (λ site. site.piece.line < length lines) (sites r lines)
  pub anchors : (r : Rows) (lines : List FlatLine) → All (λ anchor. anchor.line < length lines) (anchors_of (pieces_of_sites (sites r lines)))
  pub links : (r : Rows) (lines : List FlatLine) → All (λ link. link.place.line < length lines) (links_of (pieces_of_sites (sites r lines)))
  pub order : (r : Rows) (lines : List FlatLine)
      → AllPairs (λ link later. IsBefore link.place later.place) (links_of (pieces_of_sites (sites r lines)))
  pub apart : (r : Rows) (lines : List FlatLine) (i j : ℕ) (link other : Link)
      → slice_get (links_of (pieces_of_sites (sites r lines))) i ≡ Some link → slice_get (links_of (pieces_of_sites (sites r lines))) j ≡ Some other
      → link.place ≡ other.place → i ≡ j

-- A link of one of these lines is in a built text exactly where the line stands in it.
pub record LinksStandWithTheirLines : Type 0 where
  pub there : (always : List (List ℕ)) (r : Rows) (chosen set : List Bool) (lines : List FlatLine) (site : Site) (link : Link)
      → Contains (sites r lines) site → Contains (links_of (site.piece ∷ [])) link
      → is_standing (set_names always r chosen) set lines site ≡ true → Contains (links_of (choice_pieces always r chosen set lines)) link
  pub standing : (always : List (List ℕ)) (r : Rows) (chosen set : List Bool) (lines : List FlatLine) (site : Site) (link : Link)
      → Contains (sites r lines) site → Contains (links_of (site.piece ∷ [])) link
      → Contains (links_of (choice_pieces always r chosen set lines)) link → is_standing (set_names always r chosen) set lines site ≡ true
