-- For private contracts: the trail as the search keeps it, with a value for each literal and a place for each variable.
use Rattle.std.specs.Prelude.{◌≡◌, ℕ, ◌+◌, ◌*◌, ◌<◌, ◌≤◌, ◌^◌, ◌⊎◌, Bool, List, length, take, slice_get, slice_index_or, Option, Some, None}
use Rattle.sat_cnf.specs.declared.lit.Lit.{Lit}
use Rattle.sat_cnf.specs.Clauses.{IsWithin}
use Rattle.sat_cnf.specs.Lits.{variable_of}
use Rattle.sat_proof.specs.Propagation.{IsUndecided}
use Rattle.sat_core.specs.declared.entry.Entry.{Entry}
use Rattle.sat_core.specs.Trails.{IsValueOf, decisions_of, lits_of}

-- a literal may stand behind others: it is neither true nor false, and it stands under the last decision or under a new one
pub record IsNext (vars : ℕ) (before : List Entry) (entry : Entry) : Type 0 where
  pub within : IsWithin vars entry.lit
  pub undecided : IsUndecided (lits_of before) entry.lit
  pub decision : (entry.decision ≡ decisions_of before) ⊎ (entry.decision ≡ decisions_of before + 1)

-- each literal of a trail may stand behind those before it
abbrev pub AreInOrder : ℕ → List Entry → Type 0
AreInOrder vars entries = (place : ℕ) (entry : Entry) → slice_get entries place ≡ Some entry → IsNext vars (take place entries) entry

-- for each literal its value, for each variable that has one its place, and room for all variables
pub record IsKept (vars : ℕ) (values : List (Option Bool)) (places : List ℕ) (entries : List Entry) (room : ℕ) : Type 0 where
  pub few_vars : vars < 2 ^ 31
  pub each_value : length values ≡ 2 * vars
  pub each_place : length places ≡ vars
  pub in_order : AreInOrder vars entries
  pub values_are : (lit : Lit) → IsValueOf (lits_of entries) lit (slice_index_or values lit.0 None)
  pub places_are : (place : ℕ) (entry : Entry) → slice_get entries place ≡ Some entry → slice_index_or places (variable_of entry.lit) 0 ≡ place
  pub room_for_all : vars ≤ room
