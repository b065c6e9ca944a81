use Rattle.reg_closure.proofs.PartLemmas.{orders-of-parts}
use Rattle.reg_closure.proofs.laws.orders_of_parts.Goals as goal

pub returns : goal.returns
returns c = orders-of-parts
