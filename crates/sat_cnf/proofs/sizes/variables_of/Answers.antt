use Rattle.std.proofs.Common.{arith, length, ◌<◌}
use Rattle.vkb_formula.specs.Pools.{node_variables, node_clauses}
use Rattle.sat_cnf.proofs.EncodingLemmas.{sum-next}
use Rattle.sat_cnf.proofs.sizes.variables_of.Goals as goal

pub loop-place-preserved : goal.loop-place-preserved
loop-place-preserved c =
    let lt : c.loop-place.place-index < length c.args.places.now = omega arith in
    let vs = sum-next node_variables c.args.pool.now c.args.places.now c.loop-place.place-index c.node-node.result.now lt c.node-node.ensures.node in
    let ks = sum-next node_clauses c.args.pool.now c.args.places.now c.loop-place.place-index c.node-node.result.now lt c.node-node.ensures.node in
    record { variables = omega arith; clauses = omega arith }
