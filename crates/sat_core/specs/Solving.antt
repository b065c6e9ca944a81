-- For private contracts: what is decided next, and how far a search has come.
use Rattle.std.specs.Prelude.{◌≡◌, ◌⊎◌, ℕ, ◌+◌, ◌-◌, ◌*◌, ◌^◌, ◌<◌, Bool, true, false, List, [], ◌∷◌, Option, Some, None, Contains}
use Rattle.sat_cnf.specs.declared.lit.Lit.{Lit}
use Rattle.sat_cnf.specs.Clauses.{Cnf, IsWithin}
use Rattle.sat_proof.specs.Propagation.{IsFalse, IsUndecided}
use Rattle.sat_core.specs.declared.entry.Entry.{Entry}
use Rattle.sat_core.specs.declared.phase.Phase.TheVariants.{Fresh}
use Rattle.sat_core.specs.Searching.{State}
use Rattle.sat_core.specs.Trails.{lits_of}

-- a literal of the search that is undecided
abbrev pub IsChoice : State → Lit → Type 0
IsChoice s lit = IsWithin s.vars lit × IsUndecided (lits_of s.trail) lit

-- no literal of the search is undecided
abbrev pub IsDecided : State → Type 0
IsDecided s = (lit : Lit) → IsWithin s.vars lit → ¬ IsUndecided (lits_of s.trail) lit

-- an undecided literal, or none where there is none
abbrev pub IsNextOf : State → Option Lit → Type 0
IsNextOf s (Some lit) = IsChoice s lit
IsNextOf s None = IsDecided s

-- a truth value says whether a literal is true, where it is true or false
pub record IsTruthOf (known : List Lit) (lit : Lit) (value : Bool) : Type 0 where
  pub when_true : Contains known lit → value ≡ true
  pub when_false : IsFalse known lit → value ≡ false

-- what a search was given
abbrev pub cnf_of : State → Cnf
cnf_of s = record { vars = s.vars; list = s.clauses }

-- How far a search has come: each true literal counts more than all those together that stand under a later decision.
abbrev pub weight : ℕ → List Entry → ℕ
weight vars [] = 0
weight vars (entry ∷ entries) = (vars + 1) ^ (vars - entry.decision) + weight vars entries

-- a search of the same clauses, fresh, that has come further than one that hadn't come to the end
pub record ComesFurther (old new : State) : Type 0 where
  pub vars_same : new.vars ≡ old.vars
  pub clauses_same : new.clauses ≡ old.clauses
  pub phase_is : new.phase ≡ Fresh
  pub further : weight old.vars old.trail < weight old.vars new.trail
  pub short : weight old.vars old.trail < (old.vars + 1) ^ (old.vars + 1)

-- fewer runs may still begin, of a search of the same clauses that is fresh or as it was; or all is as it was
pub record EndsRun (old : State) (before : ℕ) (new : State) (after : ℕ) : Type 0 where
  pub vars_same : new.vars ≡ old.vars
  pub clauses_same : new.clauses ≡ old.clauses
  pub phase_is : (new.phase ≡ Fresh) ⊎ (new.phase ≡ old.phase)
  pub fewer : (after < before) ⊎ ((after ≡ before) × (new.trail ≡ old.trail))

-- how much of a search is ahead at most: whole runs, and what the weight lacks in this one
abbrev pub ahead : ℕ → ℕ → List Entry → ℕ
ahead vars runs entries = runs * (vars + 1) ^ (vars + 1) + ((vars + 1) ^ (vars + 1) - weight vars entries)

-- a literal was decided, or all are
abbrev pub Decides : State → Bool → State → Type 0
Decides old true new = ComesFurther old new
Decides old false new = (new ≡ old) × IsDecided old
