-- Unit propagation along a list of clauses (as the LRAT format of proofs has it). What is known so far is the list of the
-- literals that are true; a literal is false where its negation is true, and undecided where neither is.
use Rattle.std.specs.Prelude.{◌≡◌, ◌⊎◌, List, [], ◌∷◌, ◌++◌, All, Contains}
use Rattle.sat_cnf.specs.declared.lit.Lit.{Lit}
use Rattle.sat_cnf.specs.Lits.{negation_of}

abbrev pub IsFalse : List Lit → Lit → Type 0
IsFalse known lit = Contains known (negation_of lit)

abbrev pub IsUndecided : List Lit → Lit → Type 0
IsUndecided known lit = ¬ Contains known lit × ¬ IsFalse known lit

-- a clause with only false literals
abbrev pub IsFalsified : List Lit → List Lit → Type 0
IsFalsified known clause = All (IsFalse known) clause

-- the one literal of a clause that isn't false, and it is undecided; it may stand in the clause twice
pub record IsUnit (known clause : List Lit) (lit : Lit) : Type 0 where
  pub stands : Contains clause lit
  pub undecided : IsUndecided known lit
  pub alone : All (λ other. (other ≡ lit) ⊎ IsFalse known other) clause

-- taken in order, each clause makes its one literal true that isn't false, until one has only false literals; those after
-- it aren't looked at
abbrev pub Refutes : List Lit → List (List Lit) → Type 0
Refutes known [] = ⊥
Refutes known (clause ∷ clauses) =
    IsFalsified known clause ⊎ ((lit : Lit) × IsUnit known clause lit × Refutes (known ++ lit ∷ []) clauses)
