-- How a fault of the outside world shows: by a count that the object itself keeps.
use Rattle.std.specs.Prelude.{ℕ, ◌+◌, ◌-◌, ◌^◌, ◌≤◌, min}

-- A count of faults rose: it is greater than before, or it stands at its type's end. It never falls.
-- Code that is handed the object can't raise it by itself.
pub record Rose (before now : ℕ) : Type 0 where
  pub no_less : before ≤ now
  pub more : min (before + 1) (2 ^ 64 - 1) ≤ now
