use Rattle.reg_reader.proofs.SizeLemmas.{no-larger}
use Rattle.reg_reader.proofs.laws.elements_are_no_larger.Goals as goal

pub returns : goal.returns
returns c = no-larger
