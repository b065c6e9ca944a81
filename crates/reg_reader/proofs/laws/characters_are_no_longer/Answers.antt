use Rattle.reg_reader.proofs.LawLemmas.{no-longer}
use Rattle.reg_reader.proofs.laws.characters_are_no_longer.Goals as goal

pub returns : goal.returns
returns c = no-longer
