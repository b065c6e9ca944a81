use Rattle.std.proofs.Common.{length, ap}
use Rattle.reg_closure.proofs.OrderLemmas.{counts-more}
use Rattle.reg_closure.proofs.ordering.counts.Goals as goal

pub loop-name-preserved : goal.loop-name-preserved
loop-name-preserved c =
    counts-more c.args.r.now.rows c.loop-name.name c.row.result.now c.row.ensures.row c.loop-name.counts.items c.push.new.self.items (length c.as_slice.result.now) c.loop-name.invariant
    (ap length c.as_slice.ensures) c.in_ok-push.ensures.items
