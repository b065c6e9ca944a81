use Rattle.reg_reader.proofs.LawLemmas.{are-undone}
use Rattle.reg_reader.proofs.laws.characters_are_undone.Goals as goal

pub returns : goal.returns
returns c = are-undone
