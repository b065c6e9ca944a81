use Rattle.reg_closure.proofs.OneLemmas.{closures-closed}
use Rattle.reg_closure.proofs.laws.closures_are_closed.Goals as goal

pub returns : goal.returns
returns c = closures-closed
