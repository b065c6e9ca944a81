use Rattle.std.proofs.Common.{length}
use Rattle.sat_cnf.specs.Coding.{lit_in}
use Rattle.sat_cnf.proofs.EncodingLemmas.{all-below, made}
use Rattle.sat_cnf.proofs.encoding.encode_parts.Goals as goal

pub variables_of-requires : goal.variables_of-requires
variables_of-requires c = all-below (length c.args.pool.now) c.in_ok-places.places.items c.as_slice.result.now c.as_slice.ensures.value c.in_ok-places.ensures.places.within

pub put_nodes-requires-clause-within : goal.put_nodes-requires-clause-within
put_nodes-requires-clause-within c = all-below (length c.args.pool.now) c.in_ok-places.places.items c.as_slice-2.result.now c.as_slice-2.ensures.value c.in_ok-places.ensures.places.within

pub returns-clause-encoding : goal.returns-clause-encoding
returns-clause-encoding c =
    made c.args.pool.now c.args.roots.now c.in_ok-places.places.items c.as_slice.result.now c.as_slice-2.result.now c.args.vars c.in_ok-variables.variables (lit_in c.in_ok-table.table)
    c.new-clauses.result c.put_nodes.new.clauses c.in_ok-lits.lits.items c.in_ok-places.ensures.places c.in_ok-places.ensures.sums c.as_slice.ensures.value c.as_slice-2.ensures.value
    c.in_ok-variables.ensures.variables c.new-clauses.ensures c.in_ok-table.ensures.variables c.in_ok-table.ensures.clauses c.in_ok-table.ensures.coded c.in_ok-lits.ensures
