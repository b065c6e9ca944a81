use Rattle.std.proofs.Common.{◌≡◌}
use Rattle.sat_proof.proofs.tests.clauses_of.Given as goal

-- the clauses so far
abbrev pub invariant-loop-clause : goal.invariant-loop-clause
invariant-loop-clause l = l.clauses.vars ≡ 200000
