use Rattle.std.proofs.Common.{◌≡◌}
use Rattle.sat_proof.proofs.tests.chain.Given as goal

-- the clauses so far
abbrev pub invariant-loop-variable : goal.invariant-loop-variable
invariant-loop-variable l = l.clauses.vars ≡ 200000
