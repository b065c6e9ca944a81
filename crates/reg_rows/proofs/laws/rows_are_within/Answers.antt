use Rattle.reg_rows.proofs.AnswerLemmas.{rows-within}
use Rattle.reg_rows.proofs.laws.rows_are_within.Goals as goal

pub returns : goal.returns
returns c = rows-within
