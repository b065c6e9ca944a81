use Rattle.lift_check.proofs.NodesLemmas.{IsPut-from}
use Rattle.lift_check.proofs.conditions.put.Goals as goal

pub returns : goal.returns
returns c =
    IsPut-from c.args.pool.now c.put.new.self c.args.node c.in_ok-id.id c.nodes_keep_their_meaning.ensures.count c.in_ok-id.ensures.ok c.in_ok-id.ensures.place c.in_ok-id.ensures.reach c.in_ok-id.ensures.values
