use Rattle.std.proofs.Common.{map, take, List}
use Rattle.vkb_formula.specs.declared.pool.PoolNode.{PoolNode}
use Rattle.lift_check.specs.Nodes.{AreNodes, HoldsOptions, has_name}
use Rattle.lift_check.proofs.conditions.name_nodes.Given as goal

-- the names so far have their nodes
abbrev pub invariant-loop-name : goal.invariant-loop-name
invariant-loop-name l = (pool : List PoolNode) → HoldsOptions l.options.count pool → AreNodes pool pool l.nodes.items (λ choice. map (has_name l.options choice) (take l.name-index l.names))
