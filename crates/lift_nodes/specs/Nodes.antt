-- A node that is put into a pool over others: what it says at each set, of whatever length, and how much is reached by it.
use Rattle.std.specs.Prelude.{◌≡◌, ℕ, ◌+◌, ◌<◌, ◌≤◌, Bool, false, List, length, slice_index_or, sum_by}
use Rattle.vkb_formula.specs.Pools.{node_clauses, node_variables, pool_values, sum_reached}
use Rattle.vkb_formula.specs.declared.pool.NodeId.{NodeId}
use Rattle.vkb_formula.specs.declared.pool.PoolNode.{PoolNode}

-- the value of a node at a set
abbrev pub is_true : List PoolNode → List Bool → NodeId → Bool
is_true nodes set id = slice_index_or (pool_values set nodes) id.0 false

-- the sums over what each of some nodes reaches by itself, together
abbrev pub sum_over : (PoolNode → ℕ) → List PoolNode → List NodeId → ℕ
sum_over weigh nodes ids = sum_by (λ id. sum_reached weigh nodes id.0) ids

-- A node over some old ones says something of each set. Beside what they reach, what it reaches takes at most so many clauses and variables.
pub record IsNodeOver (old new : List PoolNode) (over : List NodeId) (most_clauses most_variables : ℕ) (says : List Bool → Bool) (id : NodeId) : Type 0 where
  pub held : id.0 < length new
  pub value : (set : List Bool) → is_true new set id ≡ says set
  pub clauses : sum_reached node_clauses new id.0 ≤ most_clauses + sum_over node_clauses old over
  pub variables : sum_reached node_variables new id.0 ≤ most_variables + sum_over node_variables old over
