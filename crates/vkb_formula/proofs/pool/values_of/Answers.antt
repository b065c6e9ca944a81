use Rattle.std.proofs.Common.{◌∙◌, ap, sym, ◌++◌, ◌∷◌, [], arith}
use Rattle.vkb_formula.proofs.PoolValueLemmas.{values-more, parts-before, reach-node}
use Rattle.vkb_formula.proofs.pool.values_of.Goals as goal

pub value_in-value-requires-clause-parts : goal.value_in-value-requires-clause-parts
value_in-value-requires-clause-parts c =
    parts-before c.args.nodes.now c.loop-node.node-index c.node-item.result c.args.set.now c.as_slice.result.now c.requires.pool c.node-item.is (omega arith)
    (c.as_slice.ensures.value ∙ c.loop-node.invariant)

pub value_in-value-requires-clause-reach : goal.value_in-value-requires-clause-reach
value_in-value-requires-clause-reach c =
    reach-node c.args.nodes.now c.loop-node.node-index c.node-item.result _ c.node-item.is (omega arith) c.requires.reach

pub loop-node-preserved : goal.loop-node-preserved
loop-node-preserved c =
    values-more c.args.set.now c.args.nodes.now c.loop-node.node-index c.node-item.result c.value_in-value.result c.as_slice.result.now _ c.node-item.is (omega arith)
    (c.as_slice.ensures.value ∙ c.loop-node.invariant) c.value_in-value.ensures
    (c.in_ok-push.ensures.items ∙ ap (λ values. values ++ c.value_in-value.result ∷ []) (sym c.as_slice.ensures.value))
