-- For private contracts: what is known of a line whose marks are added, and of the marks so far.
use Rattle.std.specs.Prelude.{◌≡◌, ℕ, ◌<◌, Bool, true, not, ◌&&◌, List, [], ◌∷◌, All, Contains, None, Option, Some, filter, length, map, slice_get}
use Rattle.std.specs.List.{AllZip, list_all}
use Rattle.std.specs.Option.{option_map_or}
use Rattle.std.specs.Str.{bytes_eq}
use Rattle.vkb_formula.specs.Names.{AreDifferent}
use Rattle.vkb_formula.specs.declared.name_table.NameId.{NameId}
use Rattle.vkb_formula.specs.declared.pool.NodeId.{NodeId}
use Rattle.vkb_formula.specs.declared.pool.PoolNode.{PoolNode}
use Rattle.vkb_text.specs.Spans.{IsWithin as IsSpanWithin, slice_at}
use Rattle.doc_cond.specs.Lines.{IsWithin as IsKindWithin}
use Rattle.doc_cond.specs.declared.LineKind.{LineKind}
use Rattle.doc_tree.specs.declared.Cond.{Cond}
use Rattle.doc_tree.specs.declared.CondId.{CondId}
use Rattle.doc_tree.specs.declared.DocLine.{DocLine}
use Rattle.doc_tree.specs.Flat.{FlatLine, is_met}
use Rattle.doc_tree.specs.Loaded.{IsBefore, flat_line, round_at, rounds_from}
use Rattle.reg_registry.specs.Rows.{Rows, id_of}
use Rattle.doc_build.specs.Ids.{filled, page_at, page_set}
use Rattle.doc_build.specs.Laws.{is_kept_at}
use Rattle.doc_build.specs.Pages.{has, numbered}
use Rattle.doc_build.specs.Sites.{Site, anchor_site, statement_site}
use Rattle.lift_nodes.specs.declared.Constants.{Constants}
use Rattle.lift_nodes.specs.declared.IdCase.{IdCase}
use Rattle.lift_nodes.specs.declared.Source.{Source}
use Rattle.lift_nodes.specs.Cases.{AreConstant, page_from}
use Rattle.lift_nodes.specs.Nodes.{is_true}
use Rattle.lift_survey.specs.declared.Case.{Case}
use Rattle.lift_survey.specs.declared.LiftedMark.{LiftedMark}
use Rattle.lift_survey.specs.declared.pages.Pages.{Pages}
use Rattle.lift_survey.specs.declared.spots.Spot.{Spot}
use Rattle.lift_survey.specs.Growth.{Grows}
use Rattle.lift_survey.specs.Survey.{AreOnce, IsLifted, Sighted, Tells, id_named}

-- ---- conditionals round a line

-- each condition stands behind the one that it is in
abbrev pub AreOrdered : List Cond → Type 0
AreOrdered conds = (place : ℕ) (cond : Cond) → slice_get conds place ≡ Some cond → IsBefore place cond.within

-- all conditions round what has this conditional innermost are met where some names are set
abbrev pub all_met : List (List ℕ) → List (List ℕ) → List Cond → Option CondId → Bool
all_met table names conds within = list_all (is_met names) (round_at (rounds_from table [] conds) within)

-- wherever the conditions round the inner one are met, those round the outer one are
abbrev pub Covers : List Cond → Option CondId → Option CondId → Type 0
Covers conds outer inner = (table names : List (List ℕ)) → all_met table names conds inner ≡ true → all_met table names conds outer ≡ true

-- ---- the lines so far that set the page

-- what a line adds to them
abbrev pub sources_at : LineKind → NodeId → List Source
sources_at kind node = map (λ page. record { page = page; line = node }) (page_set kind)

abbrev pub withins_at : LineKind → Option CondId → List (Option CondId)
withins_at kind within = map (λ _. within) (page_set kind)

-- each is kept where the conditions round it are met
abbrev pub AreKept : (NodeId → Bool) → (Option CondId → Bool) → Pages → Type 0
AreKept told met pages = AllZip (λ source within. told source.line ≡ met within) pages.sources.items pages.withins.items

-- the id of what is written, by the last of them that is kept
abbrev pub id_told : (NodeId → Bool) → Pages → List ℕ → List ℕ
id_told told pages bytes = filled (page_from told None pages.sources.items) bytes

-- ---- the cases of a mark

-- At each set, where the lines that set the page are kept by their conditions and the conditions round the mark are met, the ids are those that it may
-- have, and each node tells whether it is the id.
pub record AreTold (old new : List PoolNode) (conds : List Cond) (within : Option CondId) (pages : Pages) (bytes : List ℕ) (cases : List IdCase) : Type 0 where
  pub held : All (λ case. case.node.0 < length new) cases
  pub different : AreDifferent (map (λ case. case.id) cases)
  pub each : (set : List Bool) (table names : List (List ℕ)) → AreKept (is_true old set) (all_met table names conds) pages → all_met table names conds within ≡ true
      → All (λ case. is_true new set case.node ≡ bytes_eq case.id (id_told (is_true old set) pages bytes)) cases
  pub some : (set : List Bool) (table names : List (List ℕ)) → AreKept (is_true old set) (all_met table names conds) pages → all_met table names conds within ≡ true
      → Contains (map (λ case. case.id) cases) (id_told (is_true old set) pages bytes)

-- the case of an id, whose node is true where its own and another are
pub record IsCaseOf (old new : List PoolNode) (ids : List (List ℕ)) (standing : NodeId) (told : IdCase) (case : Case) : Type 0 where
  pub held : case.node.0 < length new
  pub named : slice_get ids case.id.0 ≡ Some told.id
  pub value : (set : List Bool) → is_true new set case.node ≡ (is_true old set standing && is_true old set told.node)

-- the cases of a mark that stands where a node is true; there the conditions round it are met
pub record AreCases (old new : List PoolNode) (ids : List (List ℕ)) (conds : List Cond) (spot : Spot) (pages : Pages) (bytes : List ℕ) (cases : List Case) : Type 0 where
  pub held : All (λ case. case.node.0 < length new) cases
  pub numbered : All (λ case. case.id.0 < length ids) cases
  pub once : AreOnce cases
  pub each : (set : List Bool) (table names : List (List ℕ)) → AreKept (is_true old set) (all_met table names conds) pages
      → (is_true old set spot.standing ≡ true → all_met table names conds spot.within ≡ true)
      → All (λ case. is_true new set case.node ≡ (is_true old set spot.standing && bytes_eq (id_named ids case) (id_told (is_true old set) pages bytes))) cases
  pub some : (set : List Bool) (table names : List (List ℕ)) → AreKept (is_true old set) (all_met table names conds) pages
      → (is_true old set spot.standing ≡ true → all_met table names conds spot.within ≡ true)
      → is_true old set spot.standing ≡ true → Contains (map (id_named ids) cases) (id_told (is_true old set) pages bytes)

-- ---- what a call is given

-- the nodes are held, and the conditions are there
pub record IsReady (pool : List PoolNode) (constants : Constants) (conds : List Cond) (spot : Spot) (pages : Pages) : Type 0 where
  pub constants_are : AreConstant pool constants
  pub ordered : AreOrdered conds
  pub within : IsBefore (length conds) spot.within
  pub standing : spot.standing.0 < length pool
  pub sources : All (λ source. source.line.0 < length pool) pages.sources.items
  pub count : length pages.withins.items ≡ length pages.sources.items

-- the line with marks at a spot that has these bytes and needs these names of the closure
abbrev pub site_at : Spot → List ℕ → List NameId → Site
site_at spot bytes needs = record {
  piece = record { line = spot.line; statement = spot.statement; start = spot.start; marked = true; bytes = bytes };
  needs = needs;
}

-- the line lies in the buffer, and the places that its kind names in the line
pub record IsLineIn (text : List ℕ) (l : DocLine) : Type 0 where
  pub span : IsSpanWithin text l.line.span
  pub kind : IsKindWithin (slice_at text l.line.span) l.kind

-- the lines with marks of the pages of a name
abbrev pub anchor_sites : Rows → ℕ → List ℕ → List Site
anchor_sites r number name = option_map_or (λ id. anchor_site number name id ∷ []) (id_of r.names name) []

abbrev pub usage_sites : Rows → ℕ → List ℕ → List Site
usage_sites r number name = option_map_or (λ id. map (statement_site number id) (numbered r id)) (id_of r.names name) []

-- a document over a registry, the names of its conditions, and the nodes of a pool for its lines and for the registry's names
pub record World : Type 0 where
  pub r : Rows
  pub lines : List FlatLine
  pub table : List (List ℕ)
  pub pool : List PoolNode
  pub line_nodes : List NodeId
  pub name_nodes : List NodeId

-- what they tell at a choice
abbrev pub Told : World → List Bool → List (List ℕ) → List Bool → Type 0
Told w choice names set = Tells w.r w.lines w.line_nodes w.name_nodes (is_true w.pool choice) names set

-- A spot is that of a line with marks which needs these names of the closure.
pub record IsSpot (w : World) (pool : List PoolNode) (conds : List Cond) (spot : Spot) (pages : Pages) (needs : List NameId) : Type 0 where
  pub stands : (choice : List Bool) (names : List (List ℕ)) (set : List Bool) → Told w choice names set
      → is_true pool choice spot.standing ≡ (is_kept_at names w.lines spot.line && list_all (has set) needs)
  pub round : (choice : List Bool) (names : List (List ℕ)) (set : List Bool) → Told w choice names set
      → is_kept_at names w.lines spot.line ≡ true → all_met w.table names conds spot.within ≡ true
  pub kept : (choice : List Bool) (names : List (List ℕ)) (set : List Bool) → Told w choice names set
      → AreKept (is_true pool choice) (all_met w.table names conds) pages
  pub page : (choice : List Bool) (names : List (List ℕ)) (set : List Bool) → Told w choice names set
      → page_from (is_true pool choice) None pages.sources.items ≡ page_at w.lines names spot.line

-- the registry is this, and these are the nodes of its names, in a pool that may have grown
pub record IsWorldOf (w : World) (pool : List PoolNode) (r : Rows) (names : List NodeId) : Type 0 where
  pub r_is : w.r ≡ r
  pub names_are : w.name_nodes ≡ names
  pub count : length w.name_nodes ≡ length w.r.names
  pub held : All (λ node. node.0 < length w.pool) w.name_nodes
  pub grows : Grows w.pool pool

-- the document has these lines and conditions, and these are the nodes of its lines
pub record IsDocumentOf (w : World) (text : List ℕ) (files : List (List ℕ)) (lines : List DocLine) (conds : List Cond) (nodes : List NodeId) : Type 0 where
  pub lines_are : w.lines ≡ map (flat_line text files (rounds_from w.table [] conds)) lines
  pub nodes_are : w.line_nodes ≡ nodes
  pub held : All (λ node. node.0 < length w.pool) w.line_nodes

-- ---- the marks so far

-- a mark is lifted at each choice
pub record Lifts (w : World) (pool : List PoolNode) (ids : List (List ℕ)) (s : Sighted) (m : LiftedMark) : Type 0 where
  pub held : All (λ case. case.node.0 < length pool) m.cases
  pub numbered : All (λ case. case.id.0 < length ids) m.cases
  pub lifted : (choice : List Bool) (names : List (List ℕ)) (set : List Bool) → Told w choice names set → IsLifted (is_true pool choice) names set w.lines ids s m

-- the anchors and links are those of these marks
pub record Keeps (w : World) (pool : List PoolNode) (ids : List (List ℕ)) (anchors links : List LiftedMark) (seen : List Sighted) : Type 0 where
  pub anchors_are : AllZip (Lifts w pool ids) (filter (λ s. s.mark.anchor) seen) anchors
  pub links_are : AllZip (Lifts w pool ids) (filter (λ s. not s.mark.anchor) seen) links
