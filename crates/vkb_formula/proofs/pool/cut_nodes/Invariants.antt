use Rattle.std.proofs.Common.{◌≡◌, ◌≤◌, take, vec_len}
use Rattle.vkb_formula.specs.Pools.{pool_size}
use Rattle.vkb_formula.proofs.pool.cut_nodes.Given as goal

abbrev pub invariant-loop-nodes : goal.invariant-loop-nodes
invariant-loop-nodes l = record {
  kept : l.nodes.items ≡ take (vec_len l.nodes) l.fn.nodes.items;
  within : l.len ≤ vec_len l.nodes;
  size : l.left ≡ pool_size l.nodes.items;
}

abbrev pub decreases-loop-nodes : goal.decreases-loop-nodes
decreases-loop-nodes l = vec_len l.nodes
