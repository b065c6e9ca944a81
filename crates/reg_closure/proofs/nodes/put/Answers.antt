use Rattle.reg_closure.proofs.MadeLemmas.{put-keeps, put-made}
use Rattle.reg_closure.proofs.nodes.put.Goals as goal

pub returns-clause-keeps : goal.returns-clause-keeps
returns-clause-keeps c =
    let law = c.nodes_keep_their_meaning.ensures in
    put-keeps law.formulas law.count law.sums law.shared c.put.result c.args.pool.now c.put.new.self c.args.node c.put.ensures.ok c.put.ensures.err

pub returns-clause-put : goal.returns-clause-put
returns-clause-put c =
    let law = c.nodes_keep_their_meaning.ensures in
    put-made law.formulas law.count law.sums law.shared c.put.result c.args.pool.now c.put.new.self c.args.node c.put.ensures.ok c.put.ensures.place c.put.ensures.reach c.put.ensures.size c.put.ensures.values
