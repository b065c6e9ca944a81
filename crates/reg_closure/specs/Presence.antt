-- For each declared name a node that says at which choices the closure has it, how many nodes that takes, and how large what such a node
-- reaches is.
use Rattle.std.specs.Prelude.{◌≡◌, ◌⊎◌, ℕ, ◌+◌, ◌*◌, ◌<◌, ◌≤◌, Bool, true, false, List, length, filter, sum_by, slice_get, slice_index_or, Some, Contains, All}
use Rattle.vkb_formula.specs.Formulas.{size_of}
use Rattle.vkb_formula.specs.Pools.{node_clauses, node_variables, pool_values, sum_reached}
use Rattle.vkb_formula.specs.declared.pool.NodeId.{NodeId}
use Rattle.vkb_formula.specs.declared.pool.PoolNode.{PoolNode}
use Rattle.reg_registry.specs.Depends.{words_of}
use Rattle.reg_registry.specs.Naming.{Leads, NoneTwice}
use Rattle.reg_registry.specs.Rows.{Rows}
use Rattle.reg_registry.specs.declared.registry.Block.{Block}
use Rattle.reg_registry.specs.declared.registry.Row.{Row}
use Rattle.reg_closure.specs.Closure.{IsInClosure, has_name, lists_name}

-- the node is true at a choice exactly where the closure has the name
pub record SaysPresence (r : Rows) (nodes : List PoolNode) (chosen : List Bool) (place : ℕ) (id : NodeId) : Type 0 where
  pub only : slice_index_or (pool_values chosen nodes) id.0 false ≡ true → IsInClosure r chosen place
  pub all : IsInClosure r chosen place → slice_index_or (pool_values chosen nodes) id.0 false ≡ true

-- Each declared name has a node, and at every choice with a value for each option, permitted or not, it says the name's presence.
pub record SayPresence (r : Rows) (nodes : List PoolNode) (ids : List NodeId) : Type 0 where
  pub count : length ids ≡ length r.names
  pub held : All (λ id. id.0 < length nodes) ids
  pub each : (chosen : List Bool) → length chosen ≡ length r.options → (place : ℕ) (id : NodeId) → slice_get ids place ≡ Some id
      → SaysPresence r nodes chosen place id

-- how many names the blocks list, and how many the rows name
abbrev pub listed_pairs : List Block → ℕ
listed_pairs blocks = sum_by (λ b. length b.lists) blocks

abbrev pub naming_pairs : List Row → ℕ
naming_pairs rows = sum_by (λ row. length row.named) rows

-- by how much the size of a pool grows at most
abbrev pub most_raised : Rows → ℕ
most_raised r =
    length r.options + 2 * sum_by (λ b. size_of b.depends) r.blocks + 3 * length r.blocks + 9 * length r.names + listed_pairs r.blocks + naming_pairs r.rows

-- The weight of what a block depends on is one more than its words, and a block weighs one more than that.
abbrev pub block_weight : Block → ℕ
block_weight b = 1 + (words_of b.depends + 1)

-- a name's root weighs one, and all blocks that list the name
abbrev pub root_weight : List Block → ℕ → ℕ
root_weight blocks place = 1 + sum_by block_weight (filter (lists_name place) blocks)

-- how many names name the one at a place
abbrev pub namers_of : List Row → ℕ → ℕ
namers_of rows place = length (filter (λ row. has_name row.named place) rows)

-- the origins of a name: itself, and each name from which a chain of naming leads to it, each once
pub record AreOrigins (r : Rows) (place : ℕ) (origins : List ℕ) : Type 0 where
  pub once : NoneTwice origins
  pub only : (origin : ℕ) → Contains origins origin → (origin ≡ place) ⊎ Leads r.rows origin place
  pub itself : Contains origins place
  pub all : (origin : ℕ) → Leads r.rows origin place → Contains origins origin

-- a name weighs one, and for each of its origins that one's root and the names that name it
abbrev pub name_weight : Rows → List ℕ → ℕ
name_weight r origins = 1 + sum_by (λ origin. root_weight r.blocks origin + namers_of r.rows origin) origins

-- The clauses and the variables into which a name's node is put are at most seven times the name's weight.
pub record KeepBounds (r : Rows) (nodes : List PoolNode) (ids : List NodeId) : Type 0 where
  pub clauses : (place : ℕ) (id : NodeId) (origins : List ℕ) → slice_get ids place ≡ Some id → AreOrigins r place origins
      → sum_reached node_clauses nodes id.0 ≤ 7 * name_weight r origins
  pub variables : (place : ℕ) (id : NodeId) (origins : List ℕ) → slice_get ids place ≡ Some id → AreOrigins r place origins
      → sum_reached node_variables nodes id.0 ≤ 7 * name_weight r origins
