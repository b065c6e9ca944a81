use Rattle.reg_reader.proofs.Parts.{parts-are-there}
use Rattle.reg_reader.proofs.parts_are_there.Goals as goal

pub returns : goal.returns
returns c = parts-are-there
