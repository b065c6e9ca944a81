use Rattle.std.proofs.Common.{◌≡◌, ℕ, ◌||◌, map, take}
use Rattle.vkb_formula.specs.declared.pool.NodeId.{NodeId}
use Rattle.sat_cnf.specs.Coding.{has}
use Rattle.sat_cnf.proofs.reached.add.Given as goal

abbrev pub invariant-loop-node : goal.invariant-loop-node
invariant-loop-node l = (place : ℕ) → has l.ahead.keys place ≡ (has l.fn.ahead.keys place || has (map (λ (node : NodeId). node.0) (take l.node-index l.nodes)) place)
