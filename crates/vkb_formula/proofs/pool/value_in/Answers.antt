use Rattle.vkb_formula.proofs.PoolValueLemmas.{all-parts, any-parts}
use Rattle.vkb_formula.proofs.pool.value_in.Goals as goal

pub all_are_true-requires : goal.all_are_true-requires
all_are_true-requires c = all-parts c.args.node.now c.in-All.parts _ _ c.in-All.is c.as_slice.ensures c.requires.parts

pub any_is_true-requires : goal.any_is_true-requires
any_is_true-requires c = any-parts c.args.node.now c.in-Any.parts _ _ c.in-Any.is c.as_slice-in-Any.ensures c.requires.parts
