use Rattle.lift_nodes.specs.Giving.{SaysIdSoFar}
use Rattle.lift_nodes.proofs.giving.put_along.Given as goal

-- the id behind the givers so far
abbrev pub invariant-loop-giver : goal.invariant-loop-giver
invariant-loop-giver l = SaysIdSoFar l.fn.pool l.pool l.constants l.id l.fn.start l.givers l.giver-index l.node
