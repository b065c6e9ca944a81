use Rattle.std.proofs.Common.{◌≡◌, ◌∙◌, ◌+◌, ◌++◌, ◌∷◌, [], ◌&&◌, ap, sym, subst, Bool, List, take}
use Rattle.vkb_formula.specs.Pools.{pool_values}
use Rattle.vkb_formula.specs.declared.pool.NodeId.{NodeId}
use Rattle.doc_build.specs.Choices.{Choice}
use Rattle.lift_check.specs.Keeping.{is_on, node_in}
use Rattle.doc_build.specs.Keeping.{met_at, met_from}
use Rattle.lift_check.specs.Nodes.{AreNodes, meets}
use Rattle.lift_check.proofs.ConditionLemmas.{met_from-more, node_in-met}
use Rattle.lift_check.proofs.NodesLemmas.{AreNodes-more, HoldsOptions-keeps}
use Rattle.lift_check.proofs.conditions.cond_nodes.Goals as goal

pub inner_node-requires-clause-holds : goal.inner_node-requires-clause-holds
inner_node-requires-clause-holds c =
    HoldsOptions-keeps c.args.options.now.count c.args.pool.now c.loop-cond.pool c.requires c.loop-cond.invariant.keeps

pub loop-cond-preserved : goal.loop-cond-preserved
loop-cond-preserved c =
    let options = c.args.options.now in
    let conds = c.args.conds.now in
    let index = c.loop-cond.cond-index in
    let here = c.cond-item.result in
    let first = c.args.pool.now in
    let old = c.loop-cond.pool in
    let items = c.loop-cond.nodes.items in
    let holds = HoldsOptions-keeps options.count first old c.requires c.loop-cond.invariant.keeps in
    let made = λ (choice : Choice). met_from (meets options choice) [] (take index conds) in
    let around : (choice : Choice) → is_on (pool_values choice old) c.node_in-around.result ≡ met_at (made choice) here.within = λ choice.
    ap (is_on (pool_values choice old)) (c.node_in-around.ensures ∙ ap (λ (ns : List NodeId). node_in ns here.within) c.as_slice.ensures.value)
    ∙ node_in-met (pool_values choice old) items (made choice) (holds.always choice) (c.loop-cond.invariant.values choice) here.within in
    subst (λ (ns : List NodeId). AreNodes first c.inner_node.new.pool ns (λ choice. met_from (meets options choice) [] (take (index + 1) conds))) (sym c.in_ok-push.ensures.items)
    (AreNodes-more first old c.inner_node.new.pool items c.in_ok-node.node made _ (λ choice. is_on (pool_values choice old) c.node_in-around.result && meets options choice here) c.loop-cond.invariant c.in_ok-node.ensures (λ choice.
    met_from-more (meets options choice) conds index here c.loop-cond-test.true c.cond-item.is
    ∙ ap (λ (b : Bool). made choice ++ (b && meets options choice here) ∷ []) (sym (around choice))))
