use Rattle.reg_closure.proofs.OneLemmas.{closures-one}
use Rattle.reg_closure.proofs.laws.one_closure.Goals as goal

pub returns : goal.returns
returns c = closures-one
