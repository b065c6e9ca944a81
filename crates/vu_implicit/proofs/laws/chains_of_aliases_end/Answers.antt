use Rattle.vu_implicit.proofs.EndLemmas.{chains-end}
use Rattle.vu_implicit.proofs.laws.chains_of_aliases_end.Goals as goal

pub returns : goal.returns
returns c = chains-end
