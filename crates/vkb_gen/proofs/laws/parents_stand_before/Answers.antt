use Rattle.vkb_gen.proofs.ItemLemmas.{parents_before}
use Rattle.vkb_gen.proofs.laws.parents_stand_before.Goals as goal

pub returns : goal.returns
returns c = parents_before
