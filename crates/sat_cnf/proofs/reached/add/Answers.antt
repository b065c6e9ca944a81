use Rattle.std.proofs.Common.{◌∙◌, ◌+◌, ◌<◌, length, ap, sym, map, take, get_or, arith}
use Rattle.std.proofs.lemmas.List.{take_more, map_push}
use Rattle.vkb_formula.specs.declared.pool.NodeId.{NodeId}
use Rattle.sat_cnf.proofs.MarkLemmas.{has-more, or-false}
use Rattle.sat_cnf.specs.Coding.{has}
use Rattle.sat_cnf.proofs.reached.add.Goals as goal

pub loop-node-init : goal.loop-node-init
loop-node-init c = λ place. sym (or-false (has c.args.ahead.now.keys place))

pub loop-node-preserved : goal.loop-node-preserved
loop-node-preserved c =
    let h : c.loop-node.node-index < length c.args.nodes.now = omega arith in
    has-more c.args.ahead.now.keys c.loop-node.ahead.keys c.insert.new.self.keys (map (λ (node : NodeId). node.0) (take c.loop-node.node-index c.args.nodes.now))
    (get_or c.args.nodes.now c.loop-node.node-index (record { 0 = 0 })).0
    (map (λ (node : NodeId). node.0) (take (c.loop-node.node-index + 1) c.args.nodes.now))
    c.loop-node.invariant c.in_ok-insert.ensures.keys
    (ap (map (λ (node : NodeId). node.0)) (take_more c.args.nodes.now c.loop-node.node-index (record { 0 = 0 }) h) ∙ map_push (λ (node : NodeId). node.0) (take c.loop-node.node-index c.args.nodes.now) (get_or c.args.nodes.now c.loop-node.node-index (record { 0 = 0 })))
