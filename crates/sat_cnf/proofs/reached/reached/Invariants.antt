use Rattle.std.proofs.Common.{reverse, map}
use Rattle.vkb_formula.specs.declared.pool.NodeId.{NodeId}
use Rattle.sat_cnf.specs.Coding.{IsMarking, top_of}
use Rattle.sat_cnf.proofs.reached.reached.Given as goal

abbrev pub invariant-loop-place : goal.invariant-loop-place
invariant-loop-place l = IsMarking l.fn.pool (map (λ (root : NodeId). root.0) l.fn.roots) l.ahead.keys (reverse l.places.items)

abbrev pub decreases-loop-place : goal.decreases-loop-place
decreases-loop-place l = top_of l.ahead.keys
