-- The trail of a search: the literals that are true, in the order in which they became so, each under a decision.
use Rattle.std.specs.Prelude.{◌≡◌, ℕ, ◌+◌, ◌<◌, max, Bool, true, false, ◌↔◌, List, [], ◌∷◌, length, map, take, filter, slice_get, Option, Some, None, Contains, nat_le}
use Rattle.sat_cnf.specs.declared.lit.Lit.{Lit}
use Rattle.sat_cnf.specs.Clauses.{IsWithin}
use Rattle.sat_cnf.specs.Lits.{negation_of}
use Rattle.sat_proof.specs.Propagation.{IsFalse, IsUndecided, IsUnit}
use Rattle.sat_proof.specs.Refutations.{hinted}
use Rattle.sat_core.specs.declared.entry.Entry.{Entry}

-- the literals of a trail, all true
abbrev pub lits_of : List Entry → List Lit
lits_of entries = map (λ entry. entry.lit) entries

-- how many decisions were made: the greatest under which a literal stands
abbrev pub decisions_of : List Entry → ℕ
decisions_of [] = 0
decisions_of (entry ∷ entries) = max entry.decision (decisions_of entries)

-- what stands under the first decisions
abbrev pub under : ℕ → List Entry → List Entry
under decisions entries = filter (λ entry. nat_le entry.decision decisions) entries

-- a literal is true under a decision, or false
abbrev pub IsTrueUnder : List Entry → Lit → ℕ → Type 0
IsTrueUnder entries lit decision = (entry : Entry) × Contains entries entry × (entry.lit ≡ lit) × (entry.decision ≡ decision)

abbrev pub IsFalseUnder : List Entry → Lit → ℕ → Type 0
IsFalseUnder entries lit decision = IsTrueUnder entries (negation_of lit) decision

-- how a literal came behind others: it was decided, under a decision of its own, or it is under the last one the only literal of a
-- clause that isn't false
abbrev pub IsReason : List (List Lit) → List Entry → Lit → ℕ → Option ℕ → Type 0
IsReason held before lit decision None = decision ≡ decisions_of before + 1
IsReason held before lit decision (Some number) = (decision ≡ decisions_of before) × (number < length held) × IsUnit (lits_of before) (hinted held number) lit

-- a literal may stand behind others
pub record IsEntry (vars : ℕ) (held : List (List Lit)) (before : List Entry) (entry : Entry) : Type 0 where
  pub within : IsWithin vars entry.lit
  pub undecided : IsUndecided (lits_of before) entry.lit
  pub reason : IsReason held before entry.lit entry.decision entry.reason

-- each literal of a trail may stand behind those before it
abbrev pub IsTrail : ℕ → List (List Lit) → List Entry → Type 0
IsTrail vars held entries = (place : ℕ) (entry : Entry) → slice_get entries place ≡ Some entry → IsEntry vars held (take place entries) entry

-- the value of a literal by those that are true
pub record IsValueOf (known : List Lit) (lit : Lit) (value : Option Bool) : Type 0 where
  pub when_true : (value ≡ Some true) ↔ Contains known lit
  pub when_false : (value ≡ Some false) ↔ IsFalse known lit

-- For private contracts, from here on.

-- literals of so many variables, and the trail of those that are true
pub record Assigned : Type 0 where
  pub vars : ℕ
  pub entries : List Entry
