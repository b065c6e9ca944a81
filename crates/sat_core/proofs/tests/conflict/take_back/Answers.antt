use Rattle.sat_core.specs.Searching.{held_in}
use Rattle.sat_core.proofs.ConflictUndoLemmas.{asserting-under}
use Rattle.sat_core.proofs.tests.conflict.take_back.Goals as goal

pub learn-requires-clause-asserts : goal.learn-requires-clause-asserts
learn-requires-clause-asserts c =
    let h = c.requires.learned.asserts c.requires.decided in
    rw c.undo.ensures (
      h.lit,
      asserting-under c.args.search.now.vars (held_in c.args.search.now) c.args.search.now.trail c.requires.trail c.args.learned.step.clause c.args.learned.back h,
    )
