use Rattle.std.proofs.Common.{◌≡◌}
use Rattle.sat_core.specs.Searching.{IsNotStruck}
use Rattle.sat_core.specs.Solving.{ahead}
use Rattle.sat_core.proofs.solving.solve.Given as goal

abbrev pub invariant-loop-conflict : goal.invariant-loop-conflict
invariant-loop-conflict l = (l.search.vars ≡ l.clauses.vars) × (l.search.clauses ≡ l.clauses.list) × IsNotStruck l.search.phase

abbrev pub decreases-loop-conflict : goal.decreases-loop-conflict
decreases-loop-conflict l = ahead l.clauses.vars l.runs.left l.search.trail
