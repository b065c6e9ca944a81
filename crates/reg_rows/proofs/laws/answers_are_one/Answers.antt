use Rattle.reg_rows.proofs.OneAnswerLemmas.{answers-one}
use Rattle.reg_rows.proofs.laws.answers_are_one.Goals as goal

pub returns : goal.returns
returns c = answers-one c.a_text_is_one_expression.ensures
