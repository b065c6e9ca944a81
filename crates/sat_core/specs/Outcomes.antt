-- What solving comes to.
use Rattle.std.specs.Prelude.{◌≡◌, ◌+◌, ◌<◌, ◌^◌, length}
use Rattle.sat_cnf.specs.Clauses.{Cnf}
use Rattle.sat_cnf.specs.Models.{Satisfies}
use Rattle.sat_proof.specs.Refutations.{AreWithin, IsRefutation}
use Rattle.sat_core.specs.declared.outcome.Outcome.{Outcome}
use Rattle.sat_core.specs.declared.outcome.Outcome.TheVariants.{Model, Refuted}

-- a set of all variables that satisfies the clauses, or a refutation of them
abbrev pub IsOutcome : Cnf → Outcome → Type 0
IsOutcome cnf (Model set) = (length set ≡ cnf.vars) × Satisfies set cnf.list
IsOutcome cnf (Refuted steps) = IsRefutation cnf.list steps × AreWithin cnf.vars steps × (length cnf.list + length steps < 2 ^ 63)
