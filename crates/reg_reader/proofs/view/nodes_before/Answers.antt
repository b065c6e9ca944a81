use Rattle.std.proofs.Common.{sym, ◌∙◌}
use Rattle.reg_reader.proofs.ViewLemmas.{next-before}
use Rattle.reg_reader.proofs.view.nodes_before.Goals as goal

pub loop-at-preserved : goal.loop-at-preserved
loop-at-preserved c =
    next-before c.args.bytes.now c.args.name.now c.args.nodes.now c.loop-at.at c.index-nodes-at.result c.index-nodes-at.is c.loop-at-test.true c.loop-at.invariant (sym c.is_named.ensures ∙ c.if-is_named.false)
