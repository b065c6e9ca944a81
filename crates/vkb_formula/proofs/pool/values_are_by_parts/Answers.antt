use Rattle.vkb_formula.proofs.ClosureLemmas.{values-by-parts, reach-greatest}
use Rattle.vkb_formula.proofs.pool.values_are_by_parts.Goals as goal

pub returns : goal.returns
returns c = record { values = values-by-parts; reach = reach-greatest }
