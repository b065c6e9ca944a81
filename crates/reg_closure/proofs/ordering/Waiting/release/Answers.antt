use Rattle.reg_closure.proofs.WaitLemmas.{releases-more, waits-one}
use Rattle.reg_closure.proofs.ordering.Waiting.release.Goals as goal

pub release_one-requires : goal.release_one-requires
release_one-requires c =
    waits-one c.args.names.now c.loop-name.name-index 0 c.loop-name-test.true c.requires.once c.args.self.now c.loop-name.self c.loop-name.invariant c.requires.wait

pub loop-name-preserved : goal.loop-name-preserved
loop-name-preserved c =
    releases-more c.args.names.now c.loop-name.name-index 0 c.loop-name-test.true c.requires.once c.args.self.now c.loop-name.self c.release_one.new.self c.loop-name.invariant
    c.in_ok-release_one.ensures
