-- When a step follows from clauses and earlier steps, and when a list of steps refutes clauses.
use Rattle.std.specs.Prelude.{◌≡◌, ℕ, ◌<◌, Some, List, [], ◌∷◌, ◌++◌, length, map, take, slice_get, slice_index_or, All, Contains}
use Rattle.sat_cnf.specs.declared.lit.Lit.{Lit}
use Rattle.sat_cnf.specs.Lits.{negation_of}
use Rattle.sat_cnf.specs.Clauses.{IsWithin}
use Rattle.sat_proof.specs.Propagation.{Refutes}
use Rattle.sat_proof.specs.declared.step.Step.{Step}

-- the clauses, and behind them those of some steps: a hint is a place among them
abbrev pub held_with : List (List Lit) → List Step → List (List Lit)
held_with clauses steps = clauses ++ map (λ step. step.clause) steps

-- the clause that a hint means
abbrev pub hinted : List (List Lit) → ℕ → List Lit
hinted held hint = slice_index_or held hint []

-- no literal together with its negation
abbrev pub IsConsistent : List Lit → Type 0
IsConsistent clause = (lit : Lit) → Contains clause lit → Contains clause (negation_of lit) → ⊥

-- a step that follows from clauses: where all literals of its clause are false, what it hints at is refuted
pub record Follows (held : List (List Lit)) (step : Step) : Type 0 where
  pub consistent : IsConsistent step.clause
  pub known : All (λ hint. hint < length held) step.hints
  pub refuted : Refutes (map negation_of step.clause) (map (hinted held) step.hints)

-- the step at a place follows from the clauses and the steps before it
abbrev pub IsGoodStep : List (List Lit) → List Step → ℕ → Type 0
IsGoodStep clauses steps place =
    (step : Step) × (slice_get steps place ≡ Some step) × Follows (held_with clauses (take place steps)) step

abbrev pub AreGood : List (List Lit) → List Step → Type 0
AreGood clauses steps = (place : ℕ) → place < length steps → IsGoodStep clauses steps place

-- the last step has the empty clause
abbrev pub EndsEmpty : List Step → Type 0
EndsEmpty steps = (before : List Step) × (last : Step) × (steps ≡ before ++ last ∷ []) × (last.clause ≡ [])

-- each step is good, and the last has the empty clause
pub record IsRefutation (clauses : List (List Lit)) (steps : List Step) : Type 0 where
  pub good : AreGood clauses steps
  pub ends : EndsEmpty steps

-- each literal of the steps is of a variable below a number
abbrev pub AreWithin : ℕ → List Step → Type 0
AreWithin vars steps = All (λ step. All (IsWithin vars) step.clause) steps

-- clauses, and steps over them
pub record Derivation : Type 0 where
  pub vars : ℕ
  pub clauses : List (List Lit)
  pub steps : List Step
