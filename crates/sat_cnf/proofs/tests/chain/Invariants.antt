use Rattle.std.proofs.Common.{◌≡◌, length}
use Rattle.sat_cnf.proofs.tests.chain.Given as goal

-- a clause for each variable so far
abbrev pub invariant-loop-variable : goal.invariant-loop-variable
invariant-loop-variable l = (l.clauses.vars ≡ 1000000) × (length l.clauses.list ≡ l.variable)
