use Rattle.std.proofs.Common.{◌≡◌, ◌+◌, length}
use Rattle.time_clauses.proofs.refutation.chain.Given as goal

-- a clause for each variable so far, and the first
abbrev pub invariant-loop-variable : goal.invariant-loop-variable
invariant-loop-variable l = (l.clauses.vars ≡ l.count + 1) × (length l.clauses.list ≡ l.variable + 1)
