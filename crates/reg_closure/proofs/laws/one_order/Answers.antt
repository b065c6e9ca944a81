use Rattle.reg_closure.proofs.OneLemmas.{orders-one}
use Rattle.reg_closure.proofs.laws.one_order.Goals as goal

pub returns : goal.returns
returns c = orders-one
