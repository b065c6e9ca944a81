use Rattle.lift_nodes.proofs.IdLemmas.{once-more}
use Rattle.lift_nodes.proofs.ids.ids_of.Goals as goal

pub loop-giver-preserved : goal.loop-giver-preserved
loop-giver-preserved c =
    once-more c.args.start.now c.args.givers.now c.loop-giver.giver-index c.giver-item.result c.as_slice.result.now c.loop-giver.ids.items c.put_new.new.ids.items c.loop-giver-test.true c.giver-item.is
    c.as_slice.ensures c.loop-giver.invariant c.in_ok-put_new.ensures
