use Rattle.std.proofs.Common.{All}
use Rattle.sat_cnf.specs.Clauses.{IsWithin}
use Rattle.sat_proof.proofs.tests.lits.Given as goal

-- the literals so far
abbrev pub invariant-loop-number : goal.invariant-loop-number
invariant-loop-number l = All (IsWithin 200000) l.lits.items
