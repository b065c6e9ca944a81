-- A search for a set of variables that satisfies clauses: what it holds, and what its calls do.
use Rattle.std.specs.Prelude.{◌≡◌, ◌≢◌, ◌⊎◌, ℕ, ◌+◌, ◌*◌, ◌<◌, ◌≤◌, ◌^◌, Bool, true, false, List, [], ◌∷◌, ◌++◌, length, take, slice_get, slice_index_or, Option, Some, None, All, Contains, ⊤}
use Rattle.sat_cnf.specs.declared.lit.Lit.{Lit}
use Rattle.sat_cnf.specs.Clauses.{Cnf, IsWithin}
use Rattle.sat_cnf.specs.Models.{clause_value, lit_value, Satisfies}
use Rattle.sat_proof.specs.Propagation.{IsFalsified, IsUndecided, IsUnit}
use Rattle.sat_proof.specs.Refutations.{AreGood, AreWithin, held_with, hinted}
use Rattle.sat_proof.specs.declared.step.Step.{Step}
use Rattle.sat_watch.specs.Watching.{Watched}
use Rattle.sat_core.specs.declared.entry.Entry.{Entry}
use Rattle.sat_core.specs.declared.pair.Pair.{Pair}
use Rattle.sat_core.specs.declared.phase.Phase.{Phase}
use Rattle.sat_core.specs.declared.phase.Phase.TheVariants.{Fresh, Quiet, Struck}
use Rattle.sat_core.specs.Trails.{IsFalseUnder, IsTrail, IsTrueUnder, decisions_of, lits_of}
use Rattle.sat_core.specs.Watching.{IsBackedPair, IsPairOf, times_in, watches_at}

-- how many variables, and how many clauses, a search takes at most
abbrev pub most : ℕ
most = 16777216

-- What a search holds: the clauses that were given, the steps that were learned, the trail, the watchers, the two literals at which
-- each clause is watched, how far along the trail propagation has gone, whether the clauses of one literal were looked at, and
-- the phase.
pub record State : Type 0 where
  pub vars : ℕ
  pub clauses : List (List Lit)
  pub steps : List Step
  pub trail : List Entry
  pub watches : Watched
  pub pairs : List (Option Pair)
  pub gone : ℕ
  pub begun : Bool
  pub phase : Phase

-- the clauses that were given, and behind them those that were learned
abbrev pub held_in : State → List (List Lit)
held_in s = held_with s.clauses s.steps

-- each clause is watched at its two literals and nowhere else, once at each, and is no cause to do anything as far as propagation
-- has gone
pub record AreWatched (s : State) : Type 0 where
  pub heads : length s.watches.lists ≡ 2 * s.vars + 1
  pub each : length s.pairs ≡ length (held_in s)
  pub two : (number : ℕ) → number < length (held_in s) → IsPairOf (hinted (held_in s) number) (slice_index_or s.pairs number None)
  pub lists : (number : ℕ) (lit : Lit) → IsWithin s.vars lit → watches_at s.watches lit number ≡ times_in (slice_index_or s.pairs number None) lit
  pub backed : (number : ℕ) → number < length (held_in s) → IsBackedPair s.trail s.gone (slice_index_or s.pairs number None)

-- the clause has one literal, and it is true under no decision
abbrev pub IsSettled : List Entry → List Lit → Type 0
IsSettled trail clause = (lit : Lit) × Contains clause lit × IsTrueUnder trail lit 0

-- the clause has only false literals, one of them under the last decision, where one was made
abbrev pub IsConflict : List Entry → List Lit → Type 0
IsConflict trail clause = IsFalsified (lits_of trail) clause × ((0 < decisions_of trail) → (lit : Lit) × Contains clause lit × IsFalseUnder trail lit (decisions_of trail))

-- what the phase says
abbrev pub IsInPhase : State → Phase → Type 0
IsInPhase s Fresh = ⊤
IsInPhase s Quiet = (s.begun ≡ true) × (s.gone ≡ length s.trail)
IsInPhase s (Struck number) = (number < length (held_in s)) × IsConflict s.trail (hinted (held_in s) number)

-- what always holds of a search
pub record IsSearch (s : State) : Type 0 where
  pub few_vars : s.vars ≤ most
  pub few_clauses : length s.clauses ≤ most
  pub few : length s.clauses + length s.steps < 2 ^ 63
  pub clauses_within : All (All (IsWithin s.vars)) s.clauses
  pub steps_within : AreWithin s.vars s.steps
  pub good : AreGood s.clauses s.steps
  pub trail : IsTrail s.vars (held_in s) s.trail
  pub gone : s.gone ≤ length s.trail
  pub ahead : (place : ℕ) (entry : Entry) → s.gone ≤ place → slice_get s.trail place ≡ Some entry → entry.decision ≡ decisions_of s.trail
  pub watched : AreWatched s
  pub waiting : s.begun ≡ false → decisions_of s.trail ≡ 0
  pub settled : s.begun ≡ true → (number : ℕ) → number < length (held_in s) → slice_index_or s.pairs number None ≡ None → IsSettled s.trail (hinted (held_in s) number)
  pub phase : IsInPhase s s.phase

-- a search that begins
pub record IsNew (cnf : Cnf) (s : State) : Type 0 where
  pub vars_are : s.vars ≡ cnf.vars
  pub clauses_are : s.clauses ≡ cnf.list
  pub steps_are : s.steps ≡ []
  pub trail_is : s.trail ≡ []
  pub phase_is : s.phase ≡ Fresh

-- a search that was not struck
abbrev pub IsNotStruck : Phase → Type 0
IsNotStruck (Struck number) = ⊥
IsNotStruck _ = ⊤

-- each literal behind a trail is under its last decision the only one of some clause that isn't false
abbrev pub ArePropagated : List (List Lit) → List Entry → List Entry → Type 0
ArePropagated held before [] = ⊤
ArePropagated held before (entry ∷ entries) =
    ((number : ℕ) × (entry.reason ≡ Some number) × (number < length held) × IsUnit (lits_of before) (hinted held number) entry.lit)
    × (entry.decision ≡ decisions_of before) × ArePropagated held (before ++ entry ∷ []) entries

-- a clause that is true, or has two literals left
abbrev pub IsOpen : List Lit → List Lit → Type 0
IsOpen known clause = ((lit : Lit) × Contains clause lit × Contains known lit)
    ⊎ ((lit other : Lit) × Contains clause lit × Contains clause other × (lit ≢ other) × IsUndecided known lit × IsUndecided known other)

-- what propagation answers
abbrev pub IsFound : State → Option ℕ → Type 0
IsFound s None = (s.phase ≡ Quiet) × All (IsOpen (lits_of s.trail)) (held_in s)
IsFound s (Some number) = (s.phase ≡ Struck number) × (number < length (held_in s)) × IsFalsified (lits_of s.trail) (hinted (held_in s) number)

-- nothing but the trail, the watchers and the phase has changed, and behind the trail stands what was propagated
pub record Propagates (old new : State) (found : Option ℕ) : Type 0 where
  pub vars_same : new.vars ≡ old.vars
  pub clauses_same : new.clauses ≡ old.clauses
  pub steps_same : new.steps ≡ old.steps
  pub more : List Entry
  pub trail_is : new.trail ≡ old.trail ++ more
  pub propagated : ArePropagated (held_in old) old.trail more
  pub found_is : IsFound new found

-- of the different literals of a clause this one is undecided and all others are false, one of them, where there are any, under the last decision
pub record IsAsserting (trail : List Entry) (clause : List Lit) (lit : Lit) : Type 0 where
  pub unit : IsUnit (lits_of trail) clause lit
  pub last : (All (λ other. other ≡ lit) clause × (decisions_of trail ≡ 0))
      ⊎ ((other : Lit) × Contains clause other × (other ≢ lit) × IsFalseUnder trail other (decisions_of trail))

-- the two literals at which a learned clause is watched: the one that was undecided, and one that is false under the last decision; none
-- where it has no other
abbrev pub IsLearnedPair : List Entry → List Lit → Lit → Option Pair → Type 0
IsLearnedPair trail clause lit None = All (λ other. other ≡ lit) clause
IsLearnedPair trail clause lit (Some pair) = (pair.first ≡ lit) × IsFalseUnder trail pair.second (decisions_of trail)

-- a step was learned: its clause is held under the next number, and its undecided literal stands behind the trail
pub record Learns (old : State) (step : Step) (new : State) : Type 0 where
  pub vars_same : new.vars ≡ old.vars
  pub clauses_same : new.clauses ≡ old.clauses
  pub steps_are : new.steps ≡ old.steps ++ step ∷ []
  pub lit : Lit
  pub asserting : IsAsserting old.trail step.clause lit
  pub trail_is : new.trail ≡ old.trail ++ record { lit = lit; decision = decisions_of old.trail; reason = Some (length (held_in old)) } ∷ []
  pub pair : Option Pair
  pub pairs_are : new.pairs ≡ old.pairs ++ pair ∷ []
  pub pair_is : IsLearnedPair old.trail step.clause lit pair
  pub phase_is : new.phase ≡ Fresh

-- all is as before, but for what is watched behind the lists of the literals
pub record IsAsBefore (old new : State) : Type 0 where
  pub watches_same : take (2 * old.vars) new.watches.lists ≡ take (2 * old.vars) old.watches.lists
  pub same : new ≡ record old { watches = new.watches }

-- A law: in a set that satisfies the clauses and in which the literals that were decided up to a decision are true, all that stands up to
-- that decision is true.
abbrev pub FollowsFromDecisions : State → Type 0
FollowsFromDecisions s = (set : List Bool) (decision : ℕ) → Satisfies set s.clauses
    → ((entry : Entry) → Contains s.trail entry → entry.decision ≤ decision → entry.reason ≡ None → lit_value set entry.lit ≡ true)
    → (entry : Entry) → Contains s.trail entry → entry.decision ≤ decision → lit_value set entry.lit ≡ true

-- A law: what was learned is true in every set that satisfies the clauses.
abbrev pub FollowsFromClauses : State → Type 0
FollowsFromClauses s = (set : List Bool) → Satisfies set s.clauses → All (λ step. clause_value set step.clause ≡ true) s.steps
