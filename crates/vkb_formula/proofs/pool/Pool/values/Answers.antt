use Rattle.std.proofs.Common.{◌∙◌}
use Rattle.vkb_formula.proofs.PoolValueLemmas.{values-count}
use Rattle.vkb_formula.proofs.pool.Pool.values.Goals as goal

pub returns-clause-count : goal.returns-clause-count
returns-clause-count c =
    values-count c.args.set.now c.as_slice.result.now c.args.self.now c.values_of.result (c.as_slice.ensures.value ∙ c.self.view_is) c.values_of.ensures
