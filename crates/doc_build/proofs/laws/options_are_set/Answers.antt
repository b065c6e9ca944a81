use Rattle.doc_build.proofs.ChosenLemmas.{options-set}
use Rattle.doc_build.proofs.laws.options_are_set.Goals as goal

pub returns : goal.returns
returns c = options-set
