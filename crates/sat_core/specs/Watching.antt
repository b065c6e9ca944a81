-- Which literals each clause is watched at (the two watched literals of Chaff, Moskewicz and others 2001): a clause needs to be
-- looked at only where one of these two becomes false.
use Rattle.std.specs.Prelude.{◌≡◌, ◌≢◌, ℕ, ◌+◌, ◌<◌, ◌≤◌, ◌==◌, if◌then◌else◌, List, [], slice_get, slice_index_or, Option, Some, None, Contains, ⊤}
use Rattle.std.specs.List.{count_by}
use Rattle.sat_cnf.specs.declared.lit.Lit.{Lit}
use Rattle.sat_cnf.specs.Lits.{negation_of}
use Rattle.sat_watch.specs.Watching.{Watched}
use Rattle.sat_core.specs.declared.entry.Entry.{Entry}
use Rattle.sat_core.specs.declared.pair.Pair.{Pair}
use Rattle.sat_core.specs.Trails.{IsTrueUnder}

-- how often a clause stands in the list of a literal
abbrev pub watches_at : Watched → Lit → ℕ → ℕ
watches_at watches lit number = count_by (λ watcher. slice_index_or watches.clauses watcher 0 == number) (slice_index_or watches.lists lit.0 [])

-- how often a literal is one of the two, if there are two
abbrev pub times_in : Option Pair → Lit → ℕ
times_in None lit = 0
times_in (Some pair) lit = (if pair.first.0 == lit.0 then 1 else 0) + (if pair.second.0 == lit.0 then 1 else 0)

-- two different literals of a clause, or none where all of its literals are one
abbrev pub IsPairOf : List Lit → Option Pair → Type 0
IsPairOf clause None = (lit other : Lit) → Contains clause lit → Contains clause other → lit ≡ other
IsPairOf clause (Some pair) = Contains clause pair.first × Contains clause pair.second × (pair.first ≢ pair.second)

-- where propagation has gone past that the first literal is false, the other is true, and under no later decision
abbrev pub IsBacked : List Entry → ℕ → Lit → Lit → Type 0
IsBacked entries gone lit other = (place : ℕ) (entry : Entry) → place < gone → slice_get entries place ≡ Some entry → entry.lit ≡ negation_of lit
    → (decision : ℕ) × IsTrueUnder entries other decision × (decision ≤ entry.decision)

abbrev pub IsBackedPair : List Entry → ℕ → Option Pair → Type 0
IsBackedPair entries gone None = ⊤
IsBackedPair entries gone (Some pair) = IsBacked entries gone pair.first pair.second × IsBacked entries gone pair.second pair.first
