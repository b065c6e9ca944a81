-- The id of a mark over all sets. The page of its text is that of the last line before it that sets one and is kept: each line that may is a
-- source, with the page and a node that is true where the line is kept.
use Rattle.std.specs.Prelude.{◌≡◌, ℕ, ◌<◌, Bool, true, false, List, [], ◌∷◌, Option, Some, None, length, map, if◌then◌else◌}
use Rattle.vkb_formula.specs.declared.pool.NodeId.{NodeId}
use Rattle.vkb_formula.specs.declared.pool.PoolNode.{PoolNode}
use Rattle.doc_tree.specs.Names.{each_once}
use Rattle.doc_build.specs.Ids.{filled}
use Rattle.lift_nodes.specs.declared.Constants.{Constants}
use Rattle.lift_nodes.specs.declared.Source.{Source}
use Rattle.lift_nodes.specs.Nodes.{is_true}

-- one node is true at each set, and the other at none
pub record AreConstant (nodes : List PoolNode) (constants : Constants) : Type 0 where
  pub always_held : constants.always.0 < length nodes
  pub never_held : constants.never.0 < length nodes
  pub always : (set : List Bool) → is_true nodes set constants.always ≡ true
  pub never : (set : List Bool) → is_true nodes set constants.never ≡ false

-- the page before the sources behind the first, where the first is kept wherever the mark stands; else there is none yet
abbrev pub start_page : Bool → List Source → Option (List ℕ)
start_page true (first ∷ sources) = Some first.page
start_page true [] = None
start_page false sources = None

-- the sources that may change it
abbrev pub later_sources : Bool → List Source → List Source
later_sources true (first ∷ sources) = sources
later_sources true [] = []
later_sources false sources = sources

-- the page of the last source whose line is kept, or else the page before them
abbrev pub page_from : (NodeId → Bool) → Option (List ℕ) → List Source → Option (List ℕ)
page_from is_kept page [] = page
page_from is_kept page (source ∷ sources) = page_from is_kept (if is_kept source.line then Some source.page else page) sources

-- the page at a mark
abbrev pub page_of : (NodeId → Bool) → Bool → List Source → Option (List ℕ)
page_of is_kept covered sources = page_from is_kept (start_page covered sources) (later_sources covered sources)

-- the id of a mark
abbrev pub id_of : (NodeId → Bool) → List ℕ → Bool → List Source → List ℕ
id_of is_kept written covered sources = filled (page_of is_kept covered sources) written

-- the pages that may be at a mark, in order
abbrev pub possible_pages : Bool → List Source → List (Option (List ℕ))
possible_pages covered sources = start_page covered sources ∷ map (λ source. Some source.page) (later_sources covered sources)

-- the ids that a mark may have, each where it stands first
abbrev pub possible_ids : List ℕ → Bool → List Source → List (List ℕ)
possible_ids written covered sources = each_once (map (λ page. filled page written) (possible_pages covered sources))

-- the nodes over which those of the ids are put
abbrev pub nodes_under : Constants → Bool → List Source → List NodeId
nodes_under constants covered sources = constants.always ∷ constants.never ∷ map (λ source. source.line) (later_sources covered sources)
