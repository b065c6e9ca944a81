use Rattle.std.proofs.Common.{◌≡◌, ◌∙◌, ◌+◌, ◌<◌, List, ap, length, subst, sym}
use Rattle.std.specs.Str.{bytes_eq}
use Rattle.vkb_formula.specs.declared.pool.NodeId.{NodeId}
use Rattle.vkb_formula.specs.declared.pool.PoolNode.{PoolNode}
use Rattle.lift_nodes.specs.declared.ids.Giver.{Giver}
use Rattle.lift_nodes.specs.Giving.{SaysIdSoFar}
use Rattle.lift_nodes.proofs.GivingLemmas.{constants-stay, says-given, says-none, says-taken}
use Rattle.lift_nodes.proofs.giving.put_along.Goals as goal
use Rattle.lift_nodes.proofs.giving.put_along.Goals.{else-eq+in_ok-node-2, then-eq+in_ok-node}

pub loop-giver-init : goal.loop-giver-init
loop-giver-init c =
    says-none c.args.pool.now c.args.constants c.requires.constants c.args.id.now c.args.start.now c.args.givers.now c.eq.result c.constant-node.result c.eq.ensures c.constant-node.ensures

pub put_given-requires-clause-constants : goal.put_given-requires-clause-constants
put_given-requires-clause-constants c =
    constants-stay c.args.pool.now c.loop-giver.pool _ _ _ _ c.args.constants c.loop-giver.invariant.grown c.requires.constants

pub put_taken-requires-clause-constants : goal.put_taken-requires-clause-constants
put_taken-requires-clause-constants c =
    constants-stay c.args.pool.now c.loop-giver.pool _ _ _ _ c.args.constants c.loop-giver.invariant.grown c.requires.constants

pub loop-giver-preserved : goal.loop-giver-preserved
loop-giver-preserved c =
    let p0 = c.args.pool.now in
    let constants = c.args.constants in
    let id = c.args.id.now in
    let start = c.args.start.now in
    let givers = c.args.givers.now in
    let mid = c.loop-giver.pool in
    let index = c.loop-giver.giver-index in
    let giver = c.giver-item.result in
    let held : giver.line.0 < length p0 = subst (λ (g : Giver). g.line.0 < length p0) (sym c.giver-item.is) (c.requires.lines index giver c.loop-giver-test.true) in
    let tested : c.eq-in-loop-giver.result ≡ bytes_eq id giver.id = c.eq-in-loop-giver.ensures ∙ ap (bytes_eq id) c.as_slice.ensures in
    elim c.if-eq.branch [
      | then-eq+in_ok-node w ↦ subst (λ (p : List PoolNode). SaysIdSoFar p0 p constants id start givers (index + 1) c.if-eq.node) (sym w.pool-is)
          (subst (λ (n : NodeId). SaysIdSoFar p0 w.put_given.new.pool constants id start givers (index + 1) n) (sym w.node-is)
          (says-given p0 constants c.requires.constants id start givers mid w.put_given.new.pool index giver c.loop-giver-test.true c.giver-item.is held c.loop-giver.node w.in_ok-node.node c.loop-giver.invariant
          (sym tested ∙ w.if-eq.true) w.in_ok-node.ensures.node))
      | else-eq+in_ok-node-2 w ↦ subst (λ (p : List PoolNode). SaysIdSoFar p0 p constants id start givers (index + 1) c.if-eq.node) (sym w.pool-is)
          (subst (λ (n : NodeId). SaysIdSoFar p0 w.put_taken.new.pool constants id start givers (index + 1) n) (sym w.node-is)
          (says-taken p0 constants c.requires.constants id start givers mid w.put_taken.new.pool index giver c.loop-giver-test.true c.giver-item.is held c.loop-giver.node w.in_ok-node-2.node c.loop-giver.invariant
          (sym tested ∙ w.if-eq.false) w.in_ok-node-2.ensures.node))
    ]
