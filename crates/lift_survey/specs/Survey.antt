-- The anchors and links of a document over a registry at all choices at once: each with the ids that it may have, and for each id a node that is
-- true where the mark stands in the built text and has the id.
use Rattle.std.specs.Prelude.{◌≡◌, ℕ, ◌+◌, ◌<◌, Bool, true, false, not, ◌&&◌, List, [], All, Contains, Some, filter, length, map, slice_get, slice_index_or}
use Rattle.std.specs.List.{AllZip, flat_map}
use Rattle.std.specs.Str.{bytes_eq}
use Rattle.vkb_formula.specs.declared.pool.NodeId.{NodeId}
use Rattle.doc_marks.specs.declared.Mark.{Mark}
use Rattle.doc_tree.specs.Flat.{FlatLine}
use Rattle.reg_registry.specs.Rows.{Rows}
use Rattle.doc_build.specs.declared.Place.{Place}
use Rattle.doc_build.specs.Ids.{id_at}
use Rattle.doc_build.specs.Laws.{is_kept_at}
use Rattle.doc_build.specs.Pieces.{id_in, marks_in}
use Rattle.doc_build.specs.Sites.{Site, is_standing, sites}
use Rattle.lift_survey.specs.declared.Case.{Case}
use Rattle.lift_survey.specs.declared.LiftedMark.{LiftedMark}

-- ---- the marks

-- a mark, and the line in which it is read
pub record Sighted : Type 0 where
  pub site : Site
  pub mark : Mark

-- those of a line
abbrev pub sighted_at : Site → List Sighted
sighted_at site = map (λ mark. record { site = site; mark = mark }) (marks_in site.piece)

-- those that a document gives at some choice or other, in order
abbrev pub sighted : Rows → List FlatLine → List Sighted
sighted r lines = flat_map sighted_at (sites r lines)

abbrev pub sighted_anchors : Rows → List FlatLine → List Sighted
sighted_anchors r lines = filter (λ s. s.mark.anchor) (sighted r lines)

abbrev pub sighted_links : Rows → List FlatLine → List Sighted
sighted_links r lines = filter (λ s. not s.mark.anchor) (sighted r lines)

-- a mark's id, as it is written
abbrev pub written : Sighted → List ℕ
written s = id_in s.site.piece.bytes s.mark

-- where it stands
abbrev pub place_of : Sighted → Place
place_of s = record { line = s.site.piece.line; statement = s.site.piece.statement; at = s.site.piece.start + s.mark.at }

-- its id where some names are set
abbrev pub mark_id : List (List ℕ) → List FlatLine → Sighted → List ℕ
mark_id names lines s = id_at lines names s.site.piece.line (written s)

-- ---- what nodes tell

-- the node at a place, from 0
abbrev pub node_at : List NodeId → ℕ → NodeId
node_at nodes place = slice_index_or nodes place (record { 0 = 0 })

-- At a choice the nodes of a document's lines tell which are kept where some names are set, and those of a registry's names which of them a set has.
pub record Tells (r : Rows) (lines : List FlatLine) (line_nodes name_nodes : List NodeId) (told : NodeId → Bool) (names : List (List ℕ)) (set : List Bool) : Type 0 where
  pub kept : (number : ℕ) → number < length lines → told (node_at line_nodes number) ≡ is_kept_at names lines number
  pub count : length set ≡ length r.names
  pub has : (place : ℕ) → place < length r.names → told (node_at name_nodes place) ≡ slice_index_or set place false

-- ---- what is kept of a mark

-- the id of a case, among those that differ
abbrev pub id_named : List (List ℕ) → Case → List ℕ
id_named ids case = slice_index_or ids case.id.0 []

-- no id has two cases
abbrev pub AreOnce : List Case → Type 0
AreOnce cases = (i j : ℕ) (case other : Case) → slice_get cases i ≡ Some case → slice_get cases j ≡ Some other → case.id.0 ≡ other.id.0 → i ≡ j

-- At a choice where these names are set and the closure has this set, the node of each case tells whether the mark stands and has the case's id. Where it
-- stands, one case has its id.
pub record IsLifted (told : NodeId → Bool) (names : List (List ℕ)) (set : List Bool) (lines : List FlatLine) (ids : List (List ℕ)) (s : Sighted) (m : LiftedMark) : Type 0 where
  pub place : m.place ≡ place_of s
  pub each : All (λ case. told case.node ≡ (is_standing names set lines s.site && bytes_eq (id_named ids case) (mark_id names lines s))) m.cases
  pub some : is_standing names set lines s.site ≡ true → Contains (map (id_named ids) m.cases) (mark_id names lines s)
  pub once : AreOnce m.cases

-- the anchors and links are those of the document, in order
pub record AreLifted (told : NodeId → Bool) (names : List (List ℕ)) (set : List Bool) (r : Rows) (lines : List FlatLine) (ids : List (List ℕ)) (anchors links : List LiftedMark) : Type 0 where
  pub anchors_are : AllZip (IsLifted told names set lines ids) (sighted_anchors r lines) anchors
  pub links_are : AllZip (IsLifted told names set lines ids) (sighted_links r lines) links

-- each case's node is one of so many, and its id too
pub record AreHeld (nodes ids : ℕ) (m : LiftedMark) : Type 0 where
  pub node : All (λ case. case.node.0 < nodes) m.cases
  pub id : All (λ case. case.id.0 < ids) m.cases
