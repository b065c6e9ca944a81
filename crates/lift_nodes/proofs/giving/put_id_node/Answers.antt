use Rattle.lift_nodes.proofs.GivingLemmas.{says-all}
use Rattle.lift_nodes.proofs.giving.put_id_node.Goals as goal

pub returns-clause-node : goal.returns-clause-node
returns-clause-node c =
    let laws = c.reached_are_the_roots_and_their_parts.ensures in
    says-all c.args.pool.now c.args.constants c.requires.constants c.args.id.now c.args.start.now c.args.givers.now laws.roots laws.closed laws.sum laws.one c.put_along.new.pool c.in_ok-node.node
    c.len-count.ensures.ordered c.requires.lines c.in_ok-node.ensures.node
