use Rattle.std.proofs.Common.{All}
use Rattle.sat_cnf.specs.Clauses.{IsWithin}
use Rattle.sat_core.proofs.tests.solving.put.Given as goal

abbrev pub invariant-loop-number : goal.invariant-loop-number
invariant-loop-number l = All (IsWithin l.clauses.vars) l.clause.items
