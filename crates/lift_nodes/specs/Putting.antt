-- For private contracts: pools that grow by nodes over some of their own.
use Rattle.std.specs.Prelude.{◌≡◌, ◌⊎◌, ℕ, ◌+◌, ◌*◌, ◌<◌, ◌≤◌, ◌==◌, Bool, not, ◌&&◌, ◌||◌, List, [], ◌∷◌, All, Contains, Some, count_by, length, map, slice_get, sum_by, take}
use Rattle.vkb_formula.specs.Pools.{Extends, entries_of, node_clauses, node_variables, parts_of, pool_reach, pool_size, pool_values, value_at}
use Rattle.vkb_formula.specs.declared.pool.NodeId.{NodeId}
use Rattle.vkb_formula.specs.declared.pool.PoolNode.{PoolNode}
use Rattle.lift_nodes.specs.declared.counting.SoFar.{SoFar}
use Rattle.lift_nodes.specs.Nodes.{is_true}

-- the places of nodes
abbrev pub places_of : List NodeId → List ℕ
places_of ids = map (λ id. id.0) ids

-- the place of one of those, or of a node that was put since
abbrev pub IsPart : List PoolNode → List ℕ → ℕ → Type 0
IsPart old over place = (length old ≤ place) ⊎ Contains over place

-- Nodes were put last, with no parts but those and one another. They are so large together, and none is a variable.
pub record IsGrown (old new : List PoolNode) (over : List ℕ) (size clauses variables : ℕ) : Type 0 where
  pub extends : Extends old new
  pub count : length old ≤ length new
  pub kept : (set : List Bool) (id : NodeId) → id.0 < length old → is_true new set id ≡ is_true old set id
  pub parts : (place : ℕ) (node : PoolNode) → length old ≤ place → slice_get new place ≡ Some node → All (IsPart old over) (parts_of node)
  pub reach : pool_reach new ≡ pool_reach old
  pub most_size : pool_size new ≤ pool_size old + size
  pub most_clauses : sum_by node_clauses new ≤ sum_by node_clauses old + clauses
  pub most_variables : sum_by node_variables new ≤ sum_by node_variables old + variables

-- the node was put last
pub record IsPut (old : List PoolNode) (node : PoolNode) (new : List PoolNode) (id : NodeId) : Type 0 where
  pub place : id.0 ≡ length old
  pub held : id.0 < length new
  pub grown : IsGrown old new (parts_of node) (entries_of node) (node_clauses node) (node_variables node)
  pub value : (set : List Bool) → is_true new set id ≡ value_at set (pool_values set old) node

-- one of those nodes, or a node that was put since, says this at each set
pub record IsBuilt (old new : List PoolNode) (over : List ℕ) (says : List Bool → Bool) (id : NodeId) : Type 0 where
  pub held : id.0 < length new
  pub part : IsPart old over id.0
  pub value : (set : List Bool) → is_true new set id ≡ says set

-- ---- how many nodes are true

-- what is known of some nodes, with one more among them
pub record IsStep (old new : List PoolNode) (so_far : SoFar) (node : NodeId) (next : SoFar) : Type 0 where
  pub grown : IsGrown old new (node.0 ∷ so_far.none.0 ∷ so_far.one.0 ∷ []) 14 12 4
  pub none : IsBuilt old new (node.0 ∷ so_far.none.0 ∷ so_far.one.0 ∷ []) (λ set. not (is_true old set node) && is_true old set so_far.none) next.none
  pub one : IsBuilt old new (node.0 ∷ so_far.none.0 ∷ so_far.one.0 ∷ [])
      (λ set. (is_true old set node && is_true old set so_far.none) || (not (is_true old set node) && is_true old set so_far.one)) next.one

-- what is known of the first nodes
pub record CountsTo (old new : List PoolNode) (nodes : List NodeId) (count : ℕ) (so_far : SoFar) : Type 0 where
  pub grown : IsGrown old new (places_of nodes) (2 + 14 * count) (2 + 12 * count) (2 + 4 * count)
  pub none : IsBuilt old new (places_of nodes) (λ set. count_by (is_true old set) (take count nodes) == 0) so_far.none
  pub one : IsBuilt old new (places_of nodes) (λ set. count_by (is_true old set) (take count nodes) == 1) so_far.one
