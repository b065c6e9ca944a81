-- Which sets of variables make a literal, a clause and all clauses true.
use Rattle.std.specs.Prelude.{Bool, false, not, IsTrue, List, slice_index_or, if◌then◌else◌}
use Rattle.std.specs.List.{list_all, list_any}
use Rattle.sat_cnf.specs.declared.lit.Lit.{Lit}
use Rattle.sat_cnf.specs.Lits.{variable_of, is_negated}

-- the value of a literal at a set, which tells of each variable whether it is true; one that it lacks is false
abbrev pub lit_value : List Bool → Lit → Bool
lit_value set lit =
    if is_negated lit then not (slice_index_or set (variable_of lit) false) else slice_index_or set (variable_of lit) false

-- a clause is true where one of its literals is
abbrev pub clause_value : List Bool → List Lit → Bool
clause_value set clause = list_any (lit_value set) clause

-- clauses are true where each of them is
abbrev pub clauses_value : List Bool → List (List Lit) → Bool
clauses_value set clauses = list_all (clause_value set) clauses

-- a set of variables that makes all clauses true
abbrev pub Satisfies : List Bool → List (List Lit) → Type 0
Satisfies set clauses = IsTrue (clauses_value set clauses)

-- no set of variables makes all clauses true
abbrev pub HasNoModel : List (List Lit) → Type 0
HasNoModel clauses = (set : List Bool) → ¬ Satisfies set clauses
