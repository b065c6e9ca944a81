use Rattle.std.proofs.Common.{[], take}
use Rattle.doc_build.specs.Keeping.{met_from}
use Rattle.lift_check.specs.Nodes.{AreNodes, meets}
use Rattle.lift_check.proofs.conditions.cond_nodes.Given as goal

-- the conditions so far have their nodes
abbrev pub invariant-loop-cond : goal.invariant-loop-cond
invariant-loop-cond l = AreNodes l.initial.pool l.pool l.nodes.items (λ choice. met_from (meets l.options choice) [] (take l.cond-index l.conds))
