use Rattle.reg_closure.proofs.ExistLemmas.{closures-there}
use Rattle.reg_closure.proofs.laws.closures_are_there.Goals as goal

pub returns : goal.returns
returns c = closures-there c.names_are_declared_or_not.ensures
