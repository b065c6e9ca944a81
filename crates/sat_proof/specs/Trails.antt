-- For private contracts: the literals that are true, as the checker keeps them, and what it finds of a clause.
use Rattle.std.specs.Prelude.{◌≡◌, ℕ, ◌+◌, ◌<◌, ◌≤◌, ◌↔◌, Bool, true, false, List, [], ◌∷◌, length, slice_index_or, Contains, Option, Some, None}
use Rattle.sat_cnf.specs.declared.lit.Lit.{Lit}
use Rattle.sat_cnf.specs.Lits.{negation_of}
use Rattle.sat_proof.specs.Propagation.{IsFalsified, IsUnit}
use Rattle.sat_proof.specs.declared.judge.Finding.{Finding}
use Rattle.sat_proof.specs.declared.judge.Finding.TheVariants.{Falsified, Unit, Neither}

-- all literals are below a limit, and some are known to be true
pub record Assignment : Type 0 where
  pub limit : ℕ
  pub known : List Lit

-- a literal and its negation are below a limit
abbrev pub Fits : ℕ → Lit → Type 0
Fits limit lit = (lit.0 < limit) × ((negation_of lit).0 < limit)

-- how many literals have no mark
abbrev pub unmarked_count : List Bool → ℕ
unmarked_count [] = 0
unmarked_count (true ∷ marks) = unmarked_count marks
unmarked_count (false ∷ marks) = unmarked_count marks + 1

-- a mark for each literal tells whether it is known, and there is room for all
pub record IsTrail (marks : List Bool) (known : List Lit) (room : ℕ) : Type 0 where
  pub marked : (lit : Lit) → (slice_index_or marks lit.0 false ≡ true) ↔ Contains known lit
  pub counted : length known + unmarked_count marks ≡ length marks
  pub fits : length marks ≤ room

-- the same literals, in whatever order
abbrev pub HasSame : List Lit → List Lit → Type 0
HasSame known other = (lit : Lit) → Contains known lit ↔ Contains other lit

-- what a clause is where some literals are known
abbrev pub IsFinding : List Lit → List Lit → Finding → Type 0
IsFinding known clause Falsified = IsFalsified known clause
IsFinding known clause (Unit lit) = IsUnit known clause lit
IsFinding known clause Neither = ¬ IsFalsified known clause × ((lit : Lit) → ¬ IsUnit known clause lit)

-- what the clause read so far is, where so far one literal isn't false, or none
abbrev pub IsOpen : List Lit → List Lit → Option Lit → Type 0
IsOpen known clause None = IsFalsified known clause
IsOpen known clause (Some lit) = IsUnit known clause lit
