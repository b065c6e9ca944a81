use Rattle.vkb_formula.proofs.MadeLemmas.{unfolded-push, length-unfolded}
use Rattle.vkb_formula.proofs.ReachLemmas.{formulas-stay, sum_reached-old, sum_reached-last}
use Rattle.vkb_formula.proofs.pool.nodes_keep_their_meaning.Goals as goal

pub returns : goal.returns
returns c = record {
  formulas = formulas-stay;
  next = unfolded-push;
  count = length-unfolded;
  sums = sum_reached-old;
  shared = sum_reached-last;
}
