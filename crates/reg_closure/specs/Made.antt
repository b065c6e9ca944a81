-- For private contracts: nodes that were put into a pool, what they say at each choice, and how many clauses they take.
use Rattle.std.specs.Prelude.{◌≡◌, ℕ, ◌+◌, ◌*◌, ◌<◌, ◌≤◌, Bool, false, List, [], ◌∷◌, length, map, slice_get, slice_index_or, sum_by, Some, Contains, max, All}
use Rattle.vkb_formula.specs.Formulas.{clauses_of, size_of}
use Rattle.vkb_formula.specs.Pools.{entries_of, node_clauses, parts_of, pool_reach, pool_size, pool_values, reach_at, sum_reached, value_at, Extends}
use Rattle.vkb_formula.specs.declared.pool.NodeId.{NodeId}
use Rattle.vkb_formula.specs.declared.pool.PoolNode.{PoolNode}
use Rattle.vkb_formula.specs.declared.pool.PoolNode.TheVariants as node
use Rattle.reg_registry.specs.declared.registry.Block.{Block}
use Rattle.reg_closure.specs.Closure.{is_active}
use Rattle.reg_closure.specs.Listed.{list_at}
use Rattle.reg_closure.specs.Presence.{root_weight}

-- the value of a node at a choice
abbrev pub is_true : List PoolNode → List Bool → NodeId → Bool
is_true nodes chosen id = slice_index_or (pool_values chosen nodes) id.0 false

-- the clauses of all that a node reaches
abbrev pub cost : List PoolNode → NodeId → ℕ
cost nodes id = sum_reached node_clauses nodes id.0

abbrev pub first_node : NodeId
first_node = record { 0 = 0 }

abbrev pub node_at : List NodeId → ℕ → NodeId
node_at ids place = slice_index_or ids place first_node

-- the node is there, says this at each choice, and takes at most so many clauses
pub record IsMade (nodes : List PoolNode) (id : NodeId) (meant : List Bool → Bool) (most : ℕ) : Type 0 where
  pub held : id.0 < length nodes
  pub says : (chosen : List Bool) → is_true nodes chosen id ≡ meant chosen
  pub takes : cost nodes id ≤ most

-- so many nodes are, each as it goes by its place
pub record AreMade (many : ℕ) (nodes : List PoolNode) (ids : List NodeId) (meant : ℕ → List Bool → Bool) (most : ℕ → ℕ) : Type 0 where
  pub count : length ids ≡ many
  pub each : (place : ℕ) → place < many → IsMade nodes (node_at ids place) (meant place) (most place)

abbrev pub option_is : ℕ → List Bool → Bool
option_is place chosen = slice_index_or chosen place false

-- the block at a place is active
abbrev pub block_is : List Block → ℕ → List Bool → Bool
block_is blocks place chosen = slice_index_or (map (is_active chosen) blocks) place false

abbrev pub block_cost : Block → ℕ
block_cost b = 3 + clauses_of b.depends

abbrev pub cost_at : List Block → ℕ → ℕ
cost_at blocks place = slice_index_or (map block_cost blocks) place 0

abbrev pub block_raise : Block → ℕ
block_raise b = 2 * size_of b.depends + 3

abbrev pub root_cost : List Block → ℕ → ℕ
root_cost blocks name = 5 * root_weight blocks name

abbrev pub free : ℕ → ℕ
free place = 0

-- each node from before stays, with its value and with what it reaches
pub record Keeps (old new : List PoolNode) : Type 0 where
  pub extends : Extends old new
  pub count : length old ≤ length new
  pub kept : (chosen : List Bool) (id : NodeId) → id.0 < length old → is_true new chosen id ≡ is_true old chosen id
  pub costs : (id : NodeId) → id.0 < length old → cost new id ≡ cost old id
  pub stays : (place : ℕ) → place < length old → slice_get new place ≡ slice_get old place

-- the node was put last
pub record IsPut (old : List PoolNode) (last : PoolNode) (new : List PoolNode) (id : NodeId) : Type 0 where
  pub there : slice_get new id.0 ≡ Some last
  pub made : IsMade new id (λ chosen. value_at chosen (pool_values chosen old) last) (node_clauses last + sum_by (sum_reached node_clauses old) (parts_of last))
  pub size : pool_size new ≡ pool_size old + entries_of last
  pub reach : pool_reach new ≡ max (pool_reach old) (reach_at last)

-- so much larger, and reaching no further than before or than so many options
pub record Grows (old new : List PoolNode) (raised options : ℕ) : Type 0 where
  pub size : pool_size new ≤ pool_size old + raised
  pub reach : pool_reach new ≤ max (pool_reach old) options

-- the parts of a name's node are its root and the nodes of those that name it
abbrev pub IsNamed : List PoolNode → List NodeId → List NodeId → List (List ℕ) → ℕ → Type 0
IsNamed nodes roots ids table name = slice_get nodes (node_at ids name).0 ≡ Some (node.Any (node_at roots name ∷ map (node_at ids) (list_at table name)))

-- no name stands twice, and those that the table has under it stand behind it
abbrev pub AreOrdered : List (List ℕ) → List ℕ → Type 0
AreOrdered table [] = Unit {0}
AreOrdered table (name ∷ names) = (Contains names name → ⊥) × All (Contains names) (list_at table name) × AreOrdered table names

-- by how much the nodes of names raise a pool
abbrev pub name_raise : List (List ℕ) → List ℕ → ℕ
name_raise table names = sum_by (λ name. 2 + length (list_at table name)) names

-- the names from here on have their nodes
pub record AreNamed (nodes : List PoolNode) (roots ids : List NodeId) (table : List (List ℕ)) (names : List ℕ) : Type 0 where
  pub count : length ids ≡ length roots
  pub held : All (λ id. id.0 < length nodes) ids
  pub each : (name : ℕ) → Contains names name → IsNamed nodes roots ids table name
