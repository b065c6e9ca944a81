use Rattle.lift_ask.proofs.PutLemmas.{put-says}
use Rattle.lift_ask.proofs.putting.put.Goals as goal

pub returns-clause-put : goal.returns-clause-put
returns-clause-put c =
    put-says c.args.pool.now c.put.new.self c.args.node c.in_ok-id.id c.nodes_keep_their_meaning.ensures.count c.requires.over c.in_ok-id.ensures.ok c.in_ok-id.ensures.place c.in_ok-id.ensures.reach c.in_ok-id.ensures.values
