use Rattle.std.proofs.Common.{◌∙◌, ◌==◌, ap, List}
use Rattle.std.specs.Prelude.{count_by}
use Rattle.std.proofs.Math.Seq.{take-length}
use Rattle.vkb_formula.specs.declared.pool.NodeId.{NodeId}
use Rattle.lift_nodes.specs.Nodes.{is_true}
use Rattle.lift_nodes.proofs.OverLemmas.{node-over}
use Rattle.lift_nodes.proofs.counting.put_exactly_one.Goals as goal

pub returns-clause-node : goal.returns-clause-node
returns-clause-node c =
    let laws = c.reached_are_the_roots_and_their_parts.ensures in
    let counts = c.in_ok-counted.ensures.counts in
    let nodes = c.args.nodes.now in
    node-over laws.roots laws.closed laws.sum laws.one c.args.pool.now c.put_counts.new.pool nodes _ _ _ _ c.in_ok-counted.counted.one counts.grown c.len-count.ensures.ordered c.requires
    (record {
      held = counts.one.held;
      part = counts.one.part;
      value = λ set. counts.one.value set ∙ ap (λ (ns : List NodeId). count_by (is_true c.args.pool.now set) ns == 1) (take-length nodes);
    })
