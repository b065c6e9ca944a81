-- What the answer to a question is: a set of variables that satisfies clauses and makes a literal true.
use Rattle.std.specs.Prelude.{◌≡◌, ℕ, ◌≤◌, Bool, true, List, length, Option, Some, None, Contains}
use Rattle.sat_cnf.specs.declared.lit.Lit.{Lit}
use Rattle.sat_cnf.specs.Clauses.{Cnf}
use Rattle.sat_cnf.specs.Models.{Satisfies, lit_value}
use Rattle.sat_core.specs.declared.entry.Entry.{Entry}
use Rattle.sat_core.specs.Trails.{IsTrueUnder}

-- a set of all variables that satisfies the clauses and makes the literal true, or none where no set does both
abbrev pub IsAnswer : Cnf → Lit → Option (List Bool) → Type 0
IsAnswer cnf lit None = (set : List Bool) → Satisfies set cnf.list → ¬ (lit_value set lit ≡ true)
IsAnswer cnf lit (Some set) = (length set ≡ cnf.vars) × Satisfies set cnf.list × (lit_value set lit ≡ true)

-- For private contracts, from here on.

-- where a literal of a trail was decided, this one is true under no later decision
abbrev pub Leads : Lit → List Entry → Type 0
Leads lit trail = (entry : Entry) → Contains trail entry → entry.reason ≡ None
    → (decision : ℕ) × IsTrueUnder trail lit decision × (decision ≤ entry.decision)

-- each literal that leads one trail leads another
abbrev pub KeepsLeads : List Entry → List Entry → Type 0
KeepsLeads old new = (lit : Lit) → Leads lit old → Leads lit new
