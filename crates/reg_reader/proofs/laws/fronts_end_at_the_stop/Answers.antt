use Rattle.reg_reader.proofs.LawLemmas.{fronts-end}
use Rattle.reg_reader.proofs.laws.fronts_end_at_the_stop.Goals as goal

pub returns : goal.returns
returns c = fronts-end
