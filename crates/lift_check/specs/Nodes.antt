-- What putting nodes for names and conditions keeps, which no public contract names. It holds at each list of values, of whatever
-- length.
use Rattle.std.specs.Prelude.{◌≡◌, ℕ, ◌+◌, ◌<◌, ◌≤◌, Bool, true, false, List, All, length, map, max, slice_index_or}
use Rattle.vkb_formula.specs.Pools.{pool_reach, pool_values, reach_at, value_at}
use Rattle.vkb_formula.specs.declared.name_table.NameId.{NameId}
use Rattle.vkb_formula.specs.declared.pool.NodeId.{NodeId}
use Rattle.vkb_formula.specs.declared.pool.PoolNode.{PoolNode}
use Rattle.doc_tree.specs.declared.Cond.{Cond}
use Rattle.doc_build.specs.Choices.{Choice}
use Rattle.doc_build.specs.Keeping.{meets_by}
use Rattle.lift_check.specs.declared.options.Setting.{Setting}
use Rattle.lift_check.specs.declared.options.Setting.TheVariants.{Fixed, Free, Unset}
use Rattle.lift_check.specs.Keeping.{is_on}
use Rattle.lift_check.specs.Options.{Settings, setting_of}

-- ---- what a choice sets and meets, by the numbers of names

-- a name that is this is set at a choice
abbrev pub is_set : Choice → Setting → Bool
is_set choice Fixed = true
is_set choice (Free option) = slice_index_or choice option.0 false
is_set choice Unset = false

-- the name of a number is set at a choice
abbrev pub has_name : Settings → Choice → NameId → Bool
has_name settings choice name = is_set choice (setting_of settings name)

-- the condition is met at a choice
abbrev pub meets : Settings → Choice → Cond → Bool
meets settings choice = meets_by (has_name settings choice)

-- ---- nodes that are put

-- the node of a name that is this: the first node of a pool is always true, the second never, and one for each option follows
abbrev pub node_for : Setting → NodeId
node_for Fixed = record { 0 = 0 }
node_for Unset = record { 0 = 1 }
node_for (Free option) = record { 0 = option.0 + 2 }

-- the node was put last
pub record IsPut (old : List PoolNode) (node : PoolNode) (new : List PoolNode) (id : NodeId) : Type 0 where
  pub place : id.0 ≡ length old
  pub count : length new ≡ length old + 1
  pub reach : pool_reach new ≡ max (pool_reach old) (reach_at node)
  pub kept : (choice : Choice) (other : NodeId) → other.0 < length old → is_on (pool_values choice new) other ≡ is_on (pool_values choice old) other
  pub value : (choice : Choice) → is_on (pool_values choice new) id ≡ value_at choice (pool_values choice old) node

-- each node from before stays and keeps its value, and no more options are read
pub record Keeps (old new : List PoolNode) : Type 0 where
  pub count : length old ≤ length new
  pub reach : pool_reach new ≤ pool_reach old
  pub kept : (choice : Choice) (node : NodeId) → node.0 < length old → is_on (pool_values choice new) node ≡ is_on (pool_values choice old) node

-- the first node is true, the second is not, and a node for each option follows them
pub record HoldsOptions (options : ℕ) (pool : List PoolNode) : Type 0 where
  pub count : options + 1 < length pool
  pub reach : pool_reach pool ≤ options
  pub always : (choice : Choice) → is_on (pool_values choice pool) (record { 0 = 0 }) ≡ true
  pub never : (choice : Choice) → is_on (pool_values choice pool) (record { 0 = 1 }) ≡ false
  pub each : (choice : Choice) (option : ℕ) → option < options → is_on (pool_values choice pool) (record { 0 = option + 2 }) ≡ slice_index_or choice option false

-- a node with this meaning, which is put beside the old ones or among them
pub record IsNode (old new : List PoolNode) (node : NodeId) (meant : Choice → Bool) : Type 0 where
  pub keeps : Keeps old new
  pub within : node.0 < length new
  pub value : (choice : Choice) → is_on (pool_values choice new) node ≡ meant choice

-- the same for several nodes
pub record AreNodes (old new : List PoolNode) (nodes : List NodeId) (meant : Choice → List Bool) : Type 0 where
  pub keeps : Keeps old new
  pub within : All (λ node. node.0 < length new) nodes
  pub values : (choice : Choice) → map (is_on (pool_values choice new)) nodes ≡ meant choice
