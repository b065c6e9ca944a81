use Rattle.std.proofs.Common.{arith}
use Rattle.lift_nodes.proofs.CountLemmas.{step-made}
use Rattle.lift_nodes.proofs.counting.put_next.Goals as goal

pub put_both-requires-2-clause-left : goal.put_both-requires-2-clause-left
put_both-requires-2-clause-left c = omega (arith, c.in_ok-isnt.ensures.put.held, c.in_ok-first.ensures.put.grown.count)

pub put_either-requires-clause-left : goal.put_either-requires-clause-left
put_either-requires-clause-left c = omega (arith, c.in_ok-first.ensures.put.held, c.in_ok-still.ensures.put.grown.count)

pub put_either-requires-clause-right : goal.put_either-requires-clause-right
put_either-requires-clause-right c = c.in_ok-still.ensures.put.held

pub put_both-requires-3-clause-left : goal.put_both-requires-3-clause-left
put_both-requires-3-clause-left c =
    omega (arith, c.in_ok-isnt.ensures.put.held, c.in_ok-first.ensures.put.grown.count, c.in_ok-still.ensures.put.grown.count, c.in_ok-one.ensures.put.grown.count)

pub returns : goal.returns
returns c =
    let step = step-made c.args.pool.now c.put.new.pool c.put_both.new.pool c.put_both-2.new.pool c.put_either.new.pool c.put_both-3.new.pool c.args.so_far c.args.node c.in_ok-isnt.isnt c.in_ok-first.first
    c.in_ok-still.still c.in_ok-one.one c.in_ok-none.none c.requires.node c.requires.none c.requires.one c.in_ok-isnt.ensures.put c.in_ok-first.ensures.put c.in_ok-still.ensures.put c.in_ok-one.ensures.put
    c.in_ok-none.ensures.put in
    record { before = step.grown.extends; step = step }
