use Rattle.std.proofs.Common.{take}
use Rattle.lift_nodes.specs.Giving.{HaveNodes}
use Rattle.lift_nodes.proofs.ids.put_id_nodes.Given as goal

-- the ids so far have their nodes
abbrev pub invariant-loop-id : goal.invariant-loop-id
invariant-loop-id l = HaveNodes l.fn.pool l.pool l.constants l.start l.givers (take l.id-index l.ids) l.cases.items
