use Rattle.std.proofs.Common.{arith}
use Rattle.reg_closure.proofs.NamerLemmas.{puts-more}
use Rattle.reg_closure.proofs.ordering.Namers.put.Goals as goal

pub loop-id-preserved : goal.loop-id-preserved
loop-id-preserved c =
    puts-more c.args.namer c.args.names.now c.loop-id.id-index (record { 0 = 0 }) c.loop-id-test.true c.requires.once c.args.self.now c.loop-id.self c.push.new.self c.loop-id.invariant
    (omega (arith, c.requires.within c.loop-id.id-index (record { 0 = 0 }) c.loop-id-test.true, c.loop-id.invariant.count)) c.in_ok-push.ensures
