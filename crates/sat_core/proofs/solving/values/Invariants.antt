use Rattle.std.proofs.Common.{◌≡◌, ℕ, ◌*◌, ◌<◌, false, length, slice_index_or}
use Rattle.sat_core.specs.Solving.{IsTruthOf}
use Rattle.sat_core.specs.Trails.{lits_of}
use Rattle.sat_core.proofs.solving.values.Given as goal

abbrev pub invariant-loop-variable : goal.invariant-loop-variable
invariant-loop-variable l =
    (length l.values.items ≡ l.variable)
    × ((variable : ℕ) → variable < l.variable
    → IsTruthOf (lits_of l.search.trail) (record { 0 = 2 * variable }) (slice_index_or l.values.items variable false))
