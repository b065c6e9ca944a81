use Rattle.std.proofs.Common.{◌≡◌, ℕ, arith, subst, length}
use Rattle.std.proofs.lemmas.List.{get_or_default}
use Rattle.lift_nodes.specs.Putting.{CountsTo}
use Rattle.lift_nodes.proofs.CountLemmas.{counts-more, counts-none}
use Rattle.lift_nodes.proofs.counting.put_counts.Goals as goal

pub loop-node-init : goal.loop-node-init
loop-node-init c =
    counts-none c.args.pool.now c.put.new.pool c.put-2.new.pool c.args.nodes.now c.in_ok-none.none c.in_ok-one.one c.in_ok-none.ensures.put c.in_ok-one.ensures.put

pub loop-node-preserved : goal.loop-node-preserved
loop-node-preserved c =
    counts-more c.args.pool.now c.loop-node.pool c.put_next.new.pool c.args.nodes.now c.loop-node.node-index c.loop-node.so_far c.in_ok-so_far.so_far _ c.loop-node-test.true
    (get_or_default c.args.nodes.now c.loop-node.node-index _ _ c.loop-node-test.true) (c.requires c.loop-node.node-index _ c.loop-node-test.true) c.loop-node.invariant
    c.in_ok-so_far.ensures.step

pub returns-clause-counts : goal.returns-clause-counts
returns-clause-counts c =
    let all : c.loop-node.node-index ≡ length c.args.nodes.now = omega (arith, c.loop-node-test.false, c.loop-node.auto.node-index-end) in
    subst (λ (k : ℕ). CountsTo c.args.pool.now c.loop-node.pool c.args.nodes.now k c.loop-node.so_far) all c.loop-node.invariant
