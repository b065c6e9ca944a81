-- For private contracts: how propagation goes over the watchers of a literal that has become false.
use Rattle.std.specs.Prelude.{◌≡◌, ℕ, ◌+◌, ◌<◌, ◌≢◌, ◌⊎◌, ◌==◌, if◌then◌else◌, List, [], ◌∷◌, ◌++◌, length, slice_get, slice_index_or, Option, Some, None, All, Contains, ⊤}
use Rattle.sat_cnf.specs.declared.lit.Lit.{Lit}
use Rattle.sat_cnf.specs.Lits.{negation_of}
use Rattle.sat_proof.specs.Propagation.{IsFalse}
use Rattle.sat_proof.specs.Refutations.{hinted}
use Rattle.sat_watch.specs.Watching.{BeginsWith, EndsWith, StandsAt, Watched, list_at}
use Rattle.sat_core.specs.declared.entry.Entry.{Entry}
use Rattle.sat_core.specs.declared.pair.Pair.{Pair}
use Rattle.sat_core.specs.declared.propagation.Visit.{Visit}
use Rattle.sat_core.specs.declared.propagation.Visit.TheVariants.{Moves, Stays, Strikes}
use Rattle.sat_core.specs.Trails.{lits_of}
use Rattle.sat_core.specs.Searching.{ArePropagated, IsConflict, State, held_in}

-- what is held is the same, and behind the trail stands what was propagated
pub record Grows (old new : State) : Type 0 where
  pub vars_same : new.vars ≡ old.vars
  pub clauses_same : new.clauses ≡ old.clauses
  pub steps_same : new.steps ≡ old.steps
  pub more : List Entry
  pub trail_is : new.trail ≡ old.trail ++ more
  pub propagated : ArePropagated (held_in old) old.trail more

-- propagation has gone no further, and the phase is the same
pub record Waits (old new : State) : Type 0 where
  pub gone_same : new.gone ≡ old.gone
  pub begun_same : new.begun ≡ old.begun
  pub phase_same : new.phase ≡ old.phase

-- by the entry to which propagation comes next, a literal is false
abbrev pub ComesTo : State → Lit → Type 0
ComesTo s lit = (entry : Entry) × (slice_get s.trail s.gone ≡ Some entry) × (entry.lit ≡ negation_of lit)

-- the clause of a watcher
abbrev pub clause_of : Watched → ℕ → ℕ
clause_of watches watcher = slice_index_or watches.clauses watcher 0

-- where a pair has the literal, its other literal is true
abbrev pub IsPassed : List Lit → Lit → Option Pair → Type 0
IsPassed known lit None = ⊤
IsPassed known lit (Some pair) = (pair.first ≡ lit → Contains known pair.second) × (pair.second ≡ lit → Contains known pair.first)

-- that holds of the pair of a clause
abbrev pub IsPassedAt : State → Lit → ℕ → Type 0
IsPassedAt s lit number = IsPassed (lits_of s.trail) lit (slice_index_or s.pairs number None)

-- all literals of the clause of this number are false
abbrev pub IsStruck : State → ℕ → Type 0
IsStruck s number = (number < length (held_in s)) × IsConflict s.trail (hinted (held_in s) number)

-- what has become of a watcher of a literal
abbrev pub IsVisited : State → State → Lit → ℕ → Visit → Type 0
IsVisited old new lit watcher Stays = (new.watches ≡ old.watches) × IsPassedAt new lit (clause_of old.watches watcher)
IsVisited old new lit watcher Moves = (new.watches.clauses ≡ old.watches.clauses)
    × ((passed rest : List ℕ) → StandsAt old.watches.lists lit.0 passed watcher rest → list_at new.watches.lists lit.0 ≡ passed ++ rest)
IsVisited old new lit watcher (Strikes number) = IsStruck new number

-- the watchers of a literal so far, and those still to come
pub record IsWalking (s : State) (lit : Lit) (before at : Option ℕ) : Type 0 where
  pub passed : List ℕ
  pub rest : List ℕ
  pub split : list_at s.watches.lists lit.0 ≡ passed ++ rest
  pub last : EndsWith passed before
  pub first : BeginsWith rest at
  pub done : All (λ watcher. IsPassedAt s lit (clause_of s.watches watcher)) passed

-- what was found among all watchers of a literal
abbrev pub IsWalked : State → Lit → Option ℕ → Type 0
IsWalked s lit None = (number : ℕ) → IsPassedAt s lit number
IsWalked s lit (Some number) = IsStruck s number

-- a literal is one of a pair, and another is the other of the two
abbrev pub HasLit : Pair → Lit → Type 0
HasLit pair lit = (pair.first ≡ lit) ⊎ (pair.second ≡ lit)

abbrev pub IsOther : Pair → Lit → Lit → Type 0
IsOther pair lit other = ((pair.first ≡ lit) × (other ≡ pair.second)) ⊎ ((pair.second ≡ lit) × (other ≡ pair.first))

-- a literal is another than two and isn't false, or it is one of them or false
abbrev pub Replaces : List Lit → Lit → Lit → Lit → Type 0
Replaces known lit other to = (to ≢ other) × (to ≢ lit) × ¬ IsFalse known to

abbrev pub IsBlocked : List Lit → Lit → Lit → Lit → Type 0
IsBlocked known lit other literal = (literal ≡ other) ⊎ ((literal ≡ lit) ⊎ IsFalse known literal)

-- a literal of a clause, but for two, that isn't false; there is none where all others are
abbrev pub IsReplacement : List Lit → List Lit → Lit → Lit → Option Lit → Type 0
IsReplacement known clause lit other None = All (IsBlocked known lit other) clause
IsReplacement known clause lit other (Some to) = Contains clause to × Replaces known lit other to

-- how many watchers are left from one on
abbrev pub left_from : List ℕ → Option ℕ → ℕ
left_from watchers None = 0
left_from [] (Some at) = 0
left_from (watcher ∷ watchers) (Some at) = if watcher == at then length watchers + 1 else left_from watchers (Some at)
