use Rattle.reg_closure.proofs.WholeLemmas.{orders-whole}
use Rattle.reg_closure.proofs.laws.orders_are_whole.Goals as goal

pub returns : goal.returns
returns c = orders-whole
