-- How far the analysis of a conflict has come: for private contracts alone.
use Rattle.std.specs.Prelude.{◌≡◌, ◌⊎◌, ℕ, ◌+◌, ◌<◌, ◌≤◌, Bool, true, false, ◌==◌, if◌then◌else◌, List, [], ◌∷◌, length, map, reverse, take, slice_get, slice_index_or, Option, Some, All, Contains}
use Rattle.sat_cnf.specs.declared.lit.Lit.{Lit}
use Rattle.sat_cnf.specs.Lits.{negation_of}
use Rattle.sat_proof.specs.Propagation.{Refutes}
use Rattle.sat_proof.specs.Refutations.{hinted}
use Rattle.sat_core.specs.declared.entry.Entry.{Entry}
use Rattle.sat_core.specs.Trails.{IsFalseUnder, decisions_of, lits_of}

-- The last decision, which entries of a trail are still to be looked at and how many of them stand under it, a place before which none of
-- them is, the literals of the clause so far, the hints so far from the last on, and the greatest earlier decision under which a literal of
-- the clause is false.
pub record Found : Type 0 where
  pub last : ℕ
  pub marks : List Bool
  pub pending : ℕ
  pub lowest : ℕ
  pub clause : List Lit
  pub hints : List ℕ
  pub back : ℕ

-- the entry at a place is still to be looked at
abbrev pub IsMarked : List Bool → ℕ → Type 0
IsMarked marks place = slice_index_or marks place false ≡ true

-- what a mark counts: one at an entry under a decision
abbrev pub weight_of : ℕ → Entry → Bool → ℕ
weight_of decision entry false = 0
weight_of decision entry true = if entry.decision == decision then 1 else 0

-- how many marked entries stand under a decision
abbrev pub marked_under : ℕ → List Entry → List Bool → ℕ
marked_under decision [] marks = 0
marked_under decision (entry ∷ entries) [] = 0
marked_under decision (entry ∷ entries) (mark ∷ marks) = weight_of decision entry mark + marked_under decision entries marks

-- the count and the place are right, of marks for all entries
pub record IsCounted (entries : List Entry) (found : Found) : Type 0 where
  pub each : length found.marks ≡ length entries
  pub count : found.pending ≡ marked_under found.last entries found.marks
  pub above : (place : ℕ) → IsMarked found.marks place → found.lowest ≤ place

-- the entry at a place makes a literal false
abbrev pub DeniesAt : List Entry → ℕ → Lit → Type 0
DeniesAt entries place lit = (entry : Entry) × (slice_get entries place ≡ Some entry) × (entry.lit ≡ negation_of lit)

-- the entries that make the literals of a clause false are marked too, but for that of one literal
pub record Marks (entries : List Entry) (clause : List Lit) (but : Option Lit) (old new : Found) : Type 0 where
  pub same : new ≡ record old { marks = new.marks; pending = new.pending; lowest = new.lowest }
  pub counted : IsCounted entries new
  pub stay : (place : ℕ) → IsMarked old.marks place → IsMarked new.marks place
  pub more : old.pending ≤ new.pending
  pub only : (place : ℕ) → IsMarked new.marks place
      → IsMarked old.marks place ⊎ ((lit : Lit) × Contains clause lit × ¬ (but ≡ Some lit) × DeniesAt entries place lit)
  pub all : (lit : Lit) → Contains clause lit → (but ≡ Some lit) ⊎ ((place : ℕ) × DeniesAt entries place lit × IsMarked new.marks place)

-- literals among which are those of all marked entries and the negations of a clause, and no others than these and those before a place
pub record IsGround (entries : List Entry) (place : ℕ) (marks : List Bool) (clause lits : List Lit) : Type 0 where
  pub marked : (other : ℕ) (entry : Entry) → slice_get entries other ≡ Some entry → IsMarked marks other → Contains lits entry.lit
  pub denied : (lit : Lit) → Contains clause lit → Contains lits (negation_of lit)
  pub only : (lit : Lit) → Contains lits lit → Contains (lits_of (take place entries)) lit ⊎ Contains clause (negation_of lit)

-- an entry from a place on makes a literal false
abbrev pub IsDeniedFrom : List Entry → ℕ → Lit → Type 0
IsDeniedFrom entries place lit = (other : ℕ) × (place ≤ other) × DeniesAt entries other lit

-- a literal is false under a decision up to another
abbrev pub IsFalseUpTo : List Entry → ℕ → Lit → Type 0
IsFalseUpTo entries last lit = (decision : ℕ) × IsFalseUnder entries lit decision × (decision ≤ last)

-- the literal of the last decision is still to be found, or stands in the clause alone
abbrev pub IsSearched : List Entry → Found → Type 0
IsSearched entries found = ((0 < found.pending) × All (IsFalseUpTo entries found.back) found.clause)
    ⊎ ((found.pending ≡ 0) × ((lit : Lit) × Contains found.clause lit × IsFalseUnder entries lit found.last
    × All (λ other. (other ≡ lit) ⊎ IsFalseUpTo entries found.back other) found.clause))

-- what is found once the entries from a place on were looked at
pub record IsAnalysed (held : List (List Lit)) (entries : List Entry) (place : ℕ) (found : Found) : Type 0 where
  pub last : found.last ≡ decisions_of entries
  pub counted : IsCounted entries found
  pub before : (other : ℕ) → IsMarked found.marks other → other < place
  pub known : All (λ hint. hint < length held) found.hints
  pub refuted : (lits : List Lit) → IsGround entries place found.marks found.clause lits → Refutes lits (map (hinted held) (reverse found.hints))
  pub denied : All (IsDeniedFrom entries place) found.clause
  pub none : found.last ≡ 0 → (found.clause ≡ []) × (found.back ≡ 0)
  pub searched : 0 < found.last → IsSearched entries found
  pub earlier : 0 < found.last → found.back < found.last
  pub greatest : (found.back ≡ 0) ⊎ ((other : Lit) × Contains found.clause other × IsFalseUnder entries other found.back)
