use Rattle.sat_core.proofs.AskingLemmas.{denied}
use Rattle.sat_core.proofs.asking.no_set_has.Goals as goal

pub returns : goal.returns
returns c = denied c.args.search.now c.trail-trail.ensures.trail c.what_stands_follows.ensures.trail c.args.lit c.requires.leads c.requires.fails
