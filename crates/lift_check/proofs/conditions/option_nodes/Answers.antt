use Rattle.std.proofs.Common.{subst, List}
use Rattle.vkb_formula.specs.declared.pool.PoolNode.{PoolNode}
use Rattle.vkb_formula.specs.declared.pool.PoolNode.TheVariants as node
use Rattle.lift_check.specs.Nodes.{IsPut}
use Rattle.lift_check.proofs.NodesLemmas.{HoldsOptions-more, HoldsOptions-none}
use Rattle.lift_check.proofs.conditions.option_nodes.Goals as goal

pub loop-option-init : goal.loop-option-init
loop-option-init c =
    HoldsOptions-none c.put.new.pool c.put-2.new.pool c.in_ok-put.field-0 c.in_ok-put-2.field-0 (subst (λ (ns : List PoolNode). IsPut ns node.Always c.put.new.pool c.in_ok-put.field-0) c.new-pool.ensures c.in_ok-put.ensures) c.in_ok-put-2.ensures

pub loop-option-preserved : goal.loop-option-preserved
loop-option-preserved c =
    HoldsOptions-more c.loop-option.option c.loop-option.pool c.put-in-loop-option.new.pool c.in_ok-put-3.field-0 c.loop-option.invariant c.in_ok-put-3.ensures
