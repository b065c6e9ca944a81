use Rattle.std.proofs.Common.{◌≡◌, ◌+◌, length, take}
use Rattle.vkb_formula.specs.Pools.{node_variables, node_clauses}
use Rattle.sat_cnf.specs.Coding.{sum_at, lit_in, IsCoded}
use Rattle.sat_cnf.proofs.encoding.put_nodes.Given as goal

abbrev pub invariant-loop-place : goal.invariant-loop-place
invariant-loop-place l = record {
  variables : l.clauses.vars ≡ l.fn.clauses.vars;
  next : l.next ≡ l.fn.vars + sum_at node_variables l.fn.pool (take l.place-index l.places);
  count : length l.clauses.list ≡ sum_at node_clauses l.fn.pool (take l.place-index l.places);
  coded : IsCoded l.fn.pool l.fn.vars (take l.place-index l.places) (lit_in l.table) l.next l.clauses.list;
}
