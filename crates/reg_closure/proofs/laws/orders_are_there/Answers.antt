use Rattle.reg_closure.proofs.ExistLemmas.{orders-there}
use Rattle.reg_closure.proofs.laws.orders_are_there.Goals as goal

pub returns : goal.returns
returns c = orders-there
