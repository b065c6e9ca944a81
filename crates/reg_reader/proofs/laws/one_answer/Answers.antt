use Rattle.reg_reader.proofs.LawLemmas.{one-answer}
use Rattle.reg_reader.proofs.laws.one_answer.Goals as goal

pub returns : goal.returns
returns c = one-answer
