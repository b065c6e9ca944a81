use Rattle.reg_reader.proofs.LawLemmas.{one-element}
use Rattle.reg_reader.proofs.laws.one_element.Goals as goal

pub returns : goal.returns
returns c = one-element
