-- For private contracts: which of several literals is true first in sets that satisfy clauses.
use Rattle.std.specs.Prelude.{◌≡◌, ℕ, Bool, true, List, ◌++◌, length, take, slice_get, Option, Some, None, All}
use Rattle.sat_cnf.specs.declared.lit.Lit.{Lit}
use Rattle.sat_cnf.specs.Clauses.{Cnf}
use Rattle.sat_cnf.specs.Models.{Satisfies, lit_value}
use Rattle.sat_ask.specs.declared.meeting.Met.{Met}

-- none of some literals is true in a set that satisfies the clauses
abbrev pub AreNeverTrue : Cnf → List Lit → Type 0
AreNeverTrue cnf lits = (set : List Bool) → Satisfies set cnf.list → All (λ lit. ¬ (lit_value set lit ≡ true)) lits

-- the first literal that is true in a set that satisfies the clauses, and the first values of such a set
pub record IsFirstTrue (cnf : Cnf) (lits : List Lit) (vars : ℕ) (met : Met) : Type 0 where
  pub each : length met.set ≡ vars
  pub more : List Bool
  pub satisfies : Satisfies (met.set ++ more) cnf.list
  pub holds : (lit : Lit) × (slice_get lits met.question ≡ Some lit) × (lit_value (met.set ++ more) lit ≡ true)
  pub none_before : AreNeverTrue cnf (take met.question lits)

-- the first, or none where none is
abbrev pub IsFound : Cnf → List Lit → ℕ → Option Met → Type 0
IsFound cnf lits vars None = AreNeverTrue cnf lits
IsFound cnf lits vars (Some met) = IsFirstTrue cnf lits vars met
