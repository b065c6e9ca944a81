use Rattle.vu_tags.proofs.PlaceLemmas.{found_first, found_here, found_none}
use Rattle.vu_tags.proofs.search.place_of.Goals as goal

pub returns-clause-here : goal.returns-clause-here
returns-clause-here c = found_here c.args.text.now c.args.word.now c.requires c.find.result c.find.ensures

pub returns-clause-before : goal.returns-clause-before
returns-clause-before c = found_first c.args.text.now c.args.word.now c.requires c.find.result c.find.ensures

pub returns-clause-none : goal.returns-clause-none
returns-clause-none c = found_none c.args.text.now c.args.word.now c.requires c.find.result c.find.ensures
