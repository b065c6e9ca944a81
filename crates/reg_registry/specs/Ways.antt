-- For private contracts: the names to which a name leads, each with the one that led to it first, and the way back along these.
use Rattle.std.specs.Prelude.{◌≡◌, ◌≢◌, ◌⊎◌, ℕ, ◌+◌, ◌<◌, Bool, true, false, List, [], ◌∷◌, length, slice_get, Some, Contains}
use Rattle.reg_registry.specs.declared.registry.Row.{Row}
use Rattle.reg_registry.specs.declared.circles.way.Met.{Met}
use Rattle.reg_registry.specs.Naming.{LeadBack, Names, NoneTwice}

-- which names were seen, and what was met
pub record Searched : Type 0 where
  pub seen : List Bool
  pub met : List Met

abbrev pub IsSeen : List Bool → ℕ → Type 0
IsSeen seen name = slice_get seen name ≡ Some true

-- how many names were not seen
abbrev pub unseen_of : List Bool → ℕ
unseen_of [] = 0
unseen_of (true ∷ seen) = unseen_of seen
unseen_of (false ∷ seen) = 1 + unseen_of seen

-- a name was met
pub record IsMetAt (met : List Met) (name : ℕ) : Type 0 where
  pub place : ℕ
  pub entry : Met
  pub here : slice_get met place ≡ Some entry
  pub named : entry.name ≡ name

-- the one that led to what was met at a place was met before
pub record IsLed (rows : List Row) (met : List Met) (place : ℕ) (entry : Met) : Type 0 where
  pub before : entry.by < place
  pub leader : Met
  pub here : slice_get met entry.by ≡ Some leader
  pub names : Names rows leader.name entry.name

pub record IsSearch (rows : List Row) (first : ℕ) (s : Searched) : Type 0 where
  pub count : length s.seen ≡ length rows
  pub each_once : length s.met + unseen_of s.seen ≡ length rows
  pub start : (entry : Met) × (slice_get s.met 0 ≡ Some entry) × (entry.name ≡ first)
  pub within : (place : ℕ) (entry : Met) → slice_get s.met place ≡ Some entry → entry.name < length rows
  pub led : (place : ℕ) (entry : Met) → slice_get s.met place ≡ Some entry → (place ≡ 0) ⊎ IsLed rows s.met place entry
  pub differ : (place other : ℕ) (one two : Met) → slice_get s.met place ≡ Some one → slice_get s.met other ≡ Some two → one.name ≡ two.name → place ≡ other
  pub marked : (place : ℕ) (entry : Met) → slice_get s.met place ≡ Some entry → IsSeen s.seen entry.name
  pub seen : (name : ℕ) → IsSeen s.seen name → IsMetAt s.met name

-- What was met before the place names only what was met, and not the first.
abbrev pub AreLookedAt : List Row → ℕ → Searched → ℕ → Type 0
AreLookedAt rows first s place =
    (before : ℕ) (entry : Met) → before < place → slice_get s.met before ≡ Some entry
    → (other : ℕ) → Names rows entry.name other → IsSeen s.seen other × (other ≢ first)

-- what was met and seen stays so
pub record IsMore (s t : Searched) : Type 0 where
  pub met : (place : ℕ) (entry : Met) → slice_get s.met place ≡ Some entry → slice_get t.met place ≡ Some entry
  pub seen : (name : ℕ) → IsSeen s.seen name → IsSeen t.seen name

-- behind the first, names that lead back to it
pub record IsWayRound (rows : List Row) (first : ℕ) (circle : List ℕ) : Type 0 where
  pub others : List ℕ
  pub begins : circle ≡ first ∷ others
  pub differ : NoneTwice (first ∷ others)
  pub lead : LeadBack rows first others first

-- the name was met behind a place
pub record IsMetBehind (met : List Met) (place name : ℕ) : Type 0 where
  pub at : ℕ
  pub entry : Met
  pub behind : place < at
  pub here : slice_get met at ≡ Some entry
  pub named : entry.name ≡ name

-- names that lead from what was met at a place to the first, all met behind it
pub record IsWayFrom (rows : List Row) (first : ℕ) (met : List Met) (place : ℕ) (names : List ℕ) : Type 0 where
  pub entry : Met
  pub here : slice_get met place ≡ Some entry
  pub lead : LeadBack rows entry.name names first
  pub differ : NoneTwice names
  pub behind : (name : ℕ) → Contains names name → IsMetBehind met place name
