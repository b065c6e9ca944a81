-- For private contracts: a pool and a table of ids that grow, and nodes that are put on the way.
use Rattle.std.specs.Prelude.{◌≡◌, ℕ, ◌<◌, ◌≤◌, Bool, false, true, ◌&&◌, List, ◌++◌, Option, length, nat_lt, slice_index_or, if◌then◌else◌}
use Rattle.std.specs.Option.{option_map_or}
use Rattle.vkb_formula.specs.declared.name_table.NameId.{NameId}
use Rattle.vkb_formula.specs.Pools.{Extends, pool_reach}
use Rattle.vkb_formula.specs.declared.pool.NodeId.{NodeId}
use Rattle.vkb_formula.specs.declared.pool.PoolNode.{PoolNode}
use Rattle.lift_nodes.specs.Nodes.{is_true}

-- each node from before stays and keeps its value, and no more is reached
pub record Grows (old new : List PoolNode) : Type 0 where
  pub extends : Extends old new
  pub count : length old ≤ length new
  pub reach : pool_reach new ≡ pool_reach old
  pub kept : (set : List Bool) (id : NodeId) → id.0 < length old → is_true new set id ≡ is_true old set id

-- the ids have others behind them
pub record HasMore (old new : List (List ℕ)) : Type 0 where
  pub more : List (List ℕ)
  pub is : new ≡ old ++ more

-- the node is true where both are
pub record IsBoth (old new : List PoolNode) (left right node : NodeId) : Type 0 where
  pub held : node.0 < length new
  pub value : (set : List Bool) → is_true new set node ≡ (is_true old set left && is_true old set right)

-- the name of a node is there
abbrev pub is_there : List PoolNode → List Bool → List NodeId → NameId → Bool
is_there pool set names id = if nat_lt id.0 (length names) then is_true pool set (slice_index_or names id.0 (record { 0 = 0 })) else false

-- the node is true where another is and a name is there, if one is needed
pub record IsNeeded (old new : List PoolNode) (standing : NodeId) (needs : Option NameId) (names : List NodeId) (node : NodeId) : Type 0 where
  pub held : node.0 < length new
  pub value : (set : List Bool) → is_true new set node ≡ (is_true old set standing && option_map_or (is_there old set names) needs true)
