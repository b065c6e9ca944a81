use Rattle.std.proofs.Common.{Option, arith, length, ◌<◌, ◌≤◌, ◌+◌, take, get_or, ap, ◌∙◌}
use Rattle.std.specs.Option.{unwrap_or}
use Rattle.vkb_formula.specs.Pools.{node_variables}
use Rattle.sat_cnf.specs.declared.lit.Lit.{Lit}
use Rattle.sat_cnf.specs.Clauses.{Cnf}
use Rattle.sat_cnf.specs.Coding.{lit_in}
use Rattle.sat_cnf.proofs.CodingLemmas.{IsNext}
use Rattle.sat_cnf.proofs.MarkLemmas.{at-has}
use Rattle.sat_cnf.proofs.EncodingLemmas.{sum-next, sum-le, parts-done, parts-within, coded-next, count-next, fresh-at}
use Rattle.sat_cnf.proofs.encoding.put_nodes.Goals as goal

pub put_node-requires-clause-next : goal.put_node-requires-clause-next
put_node-requires-clause-next c =
    let lt : c.loop-place.place-index < length c.args.places.now = omega arith in
    omega (arith, sum-le node_variables c.args.pool.now c.args.places.now c.loop-place.place-index c.node-node.result.now lt c.node-node.ensures.node)

pub put_node-requires-clause-parts : goal.put_node-requires-clause-parts
put_node-requires-clause-parts c =
    let lt : c.loop-place.place-index < length c.args.places.now = omega arith in
    let le : c.loop-place.next ≤ c.loop-place.clauses.vars = omega (arith, sum-le node_variables c.args.pool.now c.args.places.now c.loop-place.place-index c.node-node.result.now lt c.node-node.ensures.node) in
    parts-within c.args.pool.now c.args.vars c.loop-place.clauses.vars (take c.loop-place.place-index c.args.places.now) (lit_in c.loop-place.table) c.loop-place.next c.loop-place.clauses.list c.node-node.result.now
    c.loop-place.invariant.coded le
    (parts-done c.args.pool.now c.args.places.now c.loop-place.place-index c.node-node.result.now c.requires.rising c.requires.closed lt c.node-node.ensures.node c.node-node.ensures.parts)

next-of : (c : goal.After-own_variables-next) → c.loop-place.place-index < length c.args.places.now → IsNext c.args.pool.now c.args.vars (take c.loop-place.place-index c.args.places.now) (lit_in c.loop-place.table) (lit_in c.insert.new.self) c.loop-place.next (get_or c.args.places.now c.loop-place.place-index 0) c.node-node.result.now
next-of c lt = record {
  pool = c.len-count.ensures.ordered;
  laws = c.values_are_by_parts.ensures.values;
  held = c.node-node.ensures.node;
  parts = parts-done c.args.pool.now c.args.places.now c.loop-place.place-index c.node-node.result.now c.requires.rising c.requires.closed lt c.node-node.ensures.node c.node-node.ensures.parts;
  fresh = fresh-at c.args.places.now c.loop-place.place-index c.requires.rising lt;
  below = c.requires.variables (get_or c.args.places.now c.loop-place.place-index 0) c.node-node.result.now c.node-node.ensures.node (at-has c.args.places.now c.loop-place.place-index 0 lt);
  own = ap (λ (o : Option Lit). unwrap_or o (record { 0 = 0 })) c.in_ok-insert.ensures.updates.1 ∙ c.in_ok-lit.ensures.lit;
  others = λ other apart. ap (λ (o : Option Lit). unwrap_or o (record { 0 = 0 })) (c.in_ok-insert.ensures.updates.2 other apart);
}

pub loop-place-preserved : goal.loop-place-preserved
loop-place-preserved c =
    let lt : c.loop-place.place-index < length c.args.places.now = omega arith in
    record {
      variables = ap (λ (k : Cnf). k.vars) c.in_ok-lit.ensures.list ∙ c.loop-place.invariant.variables;
      next = omega (arith, sum-next node_variables c.args.pool.now c.args.places.now c.loop-place.place-index c.node-node.result.now lt c.node-node.ensures.node);
      count = count-next c.args.pool.now c.args.places.now c.loop-place.place-index (lit_in c.loop-place.table) c.loop-place.next c.node-node.result.now c.loop-place.clauses c.put_node.new.clauses lt
          c.node-node.ensures.node c.loop-place.invariant.count c.in_ok-lit.ensures.list;
      coded = coded-next c.args.pool.now c.args.vars c.args.places.now c.loop-place.place-index (lit_in c.loop-place.table) (lit_in c.insert.new.self) c.loop-place.next (c.loop-place.next + c.own_variables-next.result)
          c.node-node.result.now c.loop-place.clauses c.put_node.new.clauses lt c.loop-place.invariant.coded (next-of c lt) (ap (λ k. c.loop-place.next + k) c.own_variables-next.ensures) c.in_ok-lit.ensures.list;
    }
