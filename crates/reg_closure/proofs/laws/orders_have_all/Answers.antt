use Rattle.reg_closure.proofs.WholeLemmas.{orders-have-all}
use Rattle.reg_closure.proofs.laws.orders_have_all.Goals as goal

pub returns : goal.returns
returns c = orders-have-all
