use Rattle.vkb_formula.proofs.FrontLemmas.{stop-fronts}
use Rattle.vkb_formula.proofs.depends.a_stop_is_the_longest_front.Goals as goal

pub returns : goal.returns
returns c = stop-fronts
