use Rattle.lift_nodes.specs.Putting.{CountsTo}
use Rattle.lift_nodes.proofs.counting.put_counts.Given as goal

-- what is known of the nodes so far
abbrev pub invariant-loop-node : goal.invariant-loop-node
invariant-loop-node l = CountsTo l.fn.pool l.pool l.nodes l.node-index l.so_far
