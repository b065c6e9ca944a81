use Rattle.reg_rows.proofs.AnswerLemmas.{each-answered}
use Rattle.reg_rows.proofs.laws.each_registry_is_answered.Goals as goal

pub returns : goal.returns
returns c = each-answered c.each_text_is_read.ensures c.circles_are_there_or_not.ensures
