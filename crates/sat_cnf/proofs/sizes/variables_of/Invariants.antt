use Rattle.std.proofs.Common.{◌≡◌, ◌+◌, ◌-◌, ◌^◌, min, take}
use Rattle.vkb_formula.specs.Pools.{node_variables, node_clauses}
use Rattle.sat_cnf.specs.Coding.{sum_at}
use Rattle.sat_cnf.proofs.sizes.variables_of.Given as goal

abbrev pub invariant-loop-place : goal.invariant-loop-place
invariant-loop-place l = record {
  variables : l.variables ≡ min (l.fn.vars + sum_at node_variables l.fn.pool (take l.place-index l.places)) (2 ^ 64 - 1);
  clauses : l.clauses ≡ min (sum_at node_clauses l.fn.pool (take l.place-index l.places)) (2 ^ 64 - 1);
}
