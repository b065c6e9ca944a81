use Rattle.vkb_formula.proofs.ParseLemmas.{one-spelled}
use Rattle.vkb_formula.proofs.depends.a_text_is_one_expression.Goals as goal

pub returns : goal.returns
returns c = one-spelled
