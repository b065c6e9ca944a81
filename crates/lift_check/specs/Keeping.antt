-- A formula for each line, which is true at the choices that keep it.
use Rattle.std.specs.Prelude.{◌≡◌, ℕ, ◌<◌, ◌≤◌, Bool, false, List, Option, Some, None, All, length, slice_index_or}
use Rattle.std.specs.Option.{option_or}
use Rattle.vkb_formula.specs.Pools.{pool_reach, pool_values}
use Rattle.vkb_formula.specs.declared.pool.NodeId.{NodeId}
use Rattle.vkb_formula.specs.declared.pool.PoolNode.{PoolNode}
use Rattle.doc_tree.specs.Flat.{is_kept}
use Rattle.doc_tree.specs.Loaded.{flat_line, rounds_of}
use Rattle.doc_tree.specs.declared.CondId.{CondId}
use Rattle.doc_tree.specs.declared.DocLine.{DocLine}
use Rattle.doc_tree.specs.declared.Document.{Document}
use Rattle.doc_build.specs.Choices.{Choice, Setting, names_set}

-- the value of a node, among the values of a pool's nodes
abbrev pub is_on : List Bool → NodeId → Bool
is_on values node = slice_index_or values node.0 false

-- the node that is always true, which is the first of its pool
abbrev pub always_on : NodeId
always_on = record { 0 = 0 }

-- the node of a condition, from those of all conditions in order; where there is no condition, the one that is always true
abbrev pub node_in : List NodeId → Option CondId → NodeId
node_in nodes None = always_on
node_in nodes (Some cond) = slice_index_or nodes cond.0 always_on

-- the node of a line: that of its own condition, else that of the innermost round it
abbrev pub node_of : List NodeId → DocLine → NodeId
node_of nodes line = node_in nodes (option_or line.own line.within)

-- At each choice the value of a line's node tells whether the line is kept there. The nodes are those of the conditions of the
-- document, in order.
pub record KeepsLines (setting : Setting) (text : List ℕ) (d : Document) (pool : List PoolNode) (nodes : List NodeId) : Type 0 where
  pub within : All (λ line. (node_of nodes line).0 < length pool) d.lines
  pub reach : pool_reach pool ≤ length setting.options
  pub kept : (choice : Choice) → All (λ line. is_on (pool_values choice pool) (node_of nodes line) ≡ is_kept (names_set setting choice) (flat_line text d.files (rounds_of d) line)) d.lines
