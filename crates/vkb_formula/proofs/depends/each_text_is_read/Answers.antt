use Rattle.vkb_formula.proofs.FrontLemmas.{each-read}
use Rattle.vkb_formula.proofs.depends.each_text_is_read.Goals as goal

pub returns : goal.returns
returns c = each-read
