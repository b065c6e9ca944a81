use Rattle.reg_reader.proofs.Contract.{one}
use Rattle.reg_reader.proofs.one_tree.Goals as goal

pub returns : goal.returns
returns c = one
