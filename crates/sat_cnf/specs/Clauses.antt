-- Clauses over numbered variables, and how they lie in two vectors.
use Rattle.std.specs.Prelude.{◌≡◌, ℕ, zero, suc, ◌*◌, ◌<◌, ◌≤◌, List, [], ◌∷◌}
use Rattle.std.specs.List.{slice_range}
use Rattle.sat_cnf.specs.declared.lit.Lit.{Lit}

-- a number of variables, and a list of clauses over them
pub record Cnf : Type 0 where
  pub vars : ℕ
  pub list : List (List Lit)

-- a literal of a variable below a number of variables
abbrev pub IsWithin : ℕ → Lit → Type 0
IsWithin vars lit = lit.0 < 2 * vars

-- the ends of clauses that lie one behind the other from a place to another
abbrev pub AreEnds : ℕ → List ℕ → ℕ → Type 0
AreEnds from [] to = from ≡ to
AreEnds from (end ∷ ends) to = (from ≤ end) × AreEnds end ends to

-- where the clause at a place begins: at the end of the one before it
abbrev pub start_of : ℕ → List ℕ → ℕ → ℕ
start_of from [] place = from
start_of from (end ∷ ends) zero = from
start_of from (end ∷ ends) (suc place) = start_of end ends place

-- the clauses that lie one behind the other from a place, by their ends
abbrev pub cut_at : ℕ → List ℕ → List Lit → List (List Lit)
cut_at from [] literals = []
cut_at from (end ∷ ends) literals = slice_range literals from end ∷ cut_at end ends literals
