use Rattle.std.proofs.Common.{◌≡◌, take}
use Rattle.vkb_formula.specs.Pools.{pool_values}
use Rattle.vkb_formula.proofs.pool.values_of.Given as goal

abbrev pub invariant-loop-node : goal.invariant-loop-node
invariant-loop-node l = l.values.items ≡ pool_values l.set (take l.node-index l.nodes)
