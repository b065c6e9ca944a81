use Rattle.std.proofs.Common.{arith}
use Rattle.reg_reader.proofs.ViewLemmas.{next-text}
use Rattle.reg_reader.proofs.view.+text.Goals as goal

pub put_text-loop-node-preserved : goal.put_text-loop-node-preserved
put_text-loop-node-preserved t c =
    next-text c.args.bytes.now c.args.nodes.now c.loop-node.node-index c.node-item.result c.node-item.is (omega arith) c.args.text.now.items c.loop-node.text.items _ c.loop-node.invariant c.in_ok-put_node.ensures
