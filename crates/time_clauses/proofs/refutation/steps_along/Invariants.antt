use Rattle.std.proofs.Common.{◌≡◌, ◌+◌, length}
use Rattle.sat_proof.specs.Refutations.{AreWithin}
use Rattle.time_clauses.proofs.refutation.steps_along.Given as goal

-- a step for each variable so far
abbrev pub invariant-loop-variable : goal.invariant-loop-variable
invariant-loop-variable l = AreWithin (l.count + 1) l.steps.items × (length l.steps.items ≡ l.variable)
