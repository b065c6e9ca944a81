-- For private contracts: lines that give a mark another id where they are kept.
use Rattle.std.specs.Prelude.{◌≡◌, ℕ, ◌*◌, Bool, List, [], ◌∷◌, ◌++◌, All, Some, length, map, take, if◌then◌else◌}
use Rattle.std.specs.List.{list_any}
use Rattle.std.specs.Str.{bytes_eq}
use Rattle.vkb_formula.specs.declared.pool.NodeId.{NodeId}
use Rattle.vkb_formula.specs.declared.pool.PoolNode.{PoolNode}
use Rattle.doc_build.specs.Ids.{filled}
use Rattle.lift_nodes.specs.declared.Constants.{Constants}
use Rattle.lift_nodes.specs.declared.IdCase.{IdCase}
use Rattle.lift_nodes.specs.declared.Source.{Source}
use Rattle.lift_nodes.specs.declared.ids.Giver.{Giver}
use Rattle.lift_nodes.specs.Nodes.{IsNodeOver, is_true}
use Rattle.lift_nodes.specs.Putting.{IsBuilt, IsGrown, places_of}

-- what a source gives a mark
abbrev pub giver_of : List ℕ → Source → Giver
giver_of written source = record { id = filled (Some source.page) written; line = source.line }

-- the id of the last giver whose line is kept, or else the one before them
abbrev pub id_from : (NodeId → Bool) → List ℕ → List Giver → List ℕ
id_from is_kept id [] = id
id_from is_kept id (giver ∷ givers) = id_from is_kept (if is_kept giver.line then giver.id else id) givers

-- the ids with one more, where it is new
abbrev pub with_id : List (List ℕ) → List ℕ → List (List ℕ)
with_id ids id = if list_any (bytes_eq id) ids then ids else ids ++ id ∷ []

-- the nodes over which that of an id is put
abbrev pub nodes_over : Constants → List Giver → List NodeId
nodes_over constants givers = constants.always ∷ constants.never ∷ map (λ giver. giver.line) givers

-- a node over others, with what was put for it
pub record IsPutOver (old new : List PoolNode) (over : List ℕ) (size clauses variables : ℕ) (says : List Bool → Bool) (id : NodeId) : Type 0 where
  pub grown : IsGrown old new over size clauses variables
  pub built : IsBuilt old new over says id

-- the node is true where this id is the one behind the first givers
abbrev pub SaysIdSoFar : List PoolNode → List PoolNode → Constants → List ℕ → List ℕ → List Giver → ℕ → NodeId → Type 0
SaysIdSoFar old new constants id start givers count =
    IsPutOver old new (places_of (nodes_over constants givers)) (5 * count) (3 * count) count (λ set. bytes_eq id (id_from (is_true old set) start (take count givers)))

-- the node is true where this is the id
abbrev pub SaysId : List PoolNode → List PoolNode → Constants → List ℕ → List ℕ → List Giver → NodeId → Type 0
SaysId old new constants id start givers =
    IsNodeOver old new (nodes_over constants givers) (3 * length givers) (length givers) (λ set. bytes_eq id (id_from (is_true old set) start givers))

-- each of the ids has its node
pub record HaveNodes (old new : List PoolNode) (constants : Constants) (start : List ℕ) (givers : List Giver) (ids : List (List ℕ)) (cases : List IdCase) : Type 0 where
  pub grown : IsGrown old new (places_of (nodes_over constants givers)) (5 * (length ids * length givers)) (3 * (length ids * length givers)) (length ids * length givers)
  pub ids_are : map (λ case. case.id) cases ≡ ids
  pub nodes : All (λ case. SaysId old new constants case.id start givers case.node) cases
