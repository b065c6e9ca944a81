-- What a search has found holds in each set that satisfies the clauses.
use Rattle.std.proofs.Common.{◌≡◌, ℕ, zero, suc, ◌<◌, ◌≤◌, Bool, true, List, [], map, take, slice_get, Option, Some, None, All, Contains, refl, sym, arith}
use Rattle.std.proofs.lemmas.List.Elements.{All-append, All-contains_itself, All-get_or, All-map, All-weaker}
use Rattle.std.proofs.lemmas.List.Sums.{AllPass-from_list_all}
use Rattle.sat_cnf.specs.declared.lit.Lit.{Lit}
use Rattle.sat_cnf.specs.Models.{Satisfies, clause_value, lit_value}
use Rattle.sat_proof.specs.Propagation.{IsUnit}
use Rattle.sat_proof.specs.Refutations.{AreGood, hinted}
use Rattle.sat_proof.specs.declared.step.Step.{Step}
use Rattle.sat_core.specs.declared.entry.Entry.{Entry}
use Rattle.sat_core.specs.Searching.{FollowsFromClauses, FollowsFromDecisions, IsSearch, State, held_in}
use Rattle.sat_core.specs.Trails.{IsReason, decisions_of, lits_of}
use Rattle.sat_core.proofs.PlaceLemmas.{Contains-at, before-place, place-of}
use Rattle.sat_core.proofs.TrailLemmas.{decision-le}

-- units : what sat_proof's law says of units, steps_true : and of steps
module _
    (units : (set : List Bool) (known clause : List Lit) (lit : Lit) → All (λ l. lit_value set l ≡ true) known → IsUnit known clause lit
    → clause_value set clause ≡ true → lit_value set lit ≡ true)
    (steps_true : (set : List Bool) (clauses : List (List Lit)) (steps : List Step) → AreGood clauses steps → Satisfies set clauses
    → All (λ step. clause_value set step.clause ≡ true) steps)
    (s : State) (search : IsSearch s) where
  pub steps-follow : FollowsFromClauses s
  steps-follow set satisfied = steps_true set s.clauses s.steps search.good satisfied

  held-true : (set : List Bool) → Satisfies set s.clauses → All (λ clause. clause_value set clause ≡ true) (held_in s)
  held-true set satisfied =
      All-append (λ clause. clause_value set clause ≡ true) s.clauses (map (λ step. step.clause) s.steps)
      (AllPass-from_list_all (clause_value set) s.clauses satisfied)
      (All-map (λ clause. clause_value set clause ≡ true) (λ (step : Step). step.clause) s.steps (steps-follow set satisfied))

  reason-true : (set : List Bool) (before : List Entry) (entry : Entry) (reason : Option ℕ) → entry.reason ≡ reason
      → IsReason (held_in s) before entry.lit entry.decision reason → (entry.reason ≡ None → lit_value set entry.lit ≡ true)
      → (decisions_of before ≡ entry.decision → All (λ l. lit_value set l ≡ true) (lits_of before)) → All (λ clause. clause_value set clause ≡ true) (held_in s)
      → lit_value set entry.lit ≡ true
  reason-true set before entry None is r decided known held = decided is
  reason-true set before entry (Some number) is r decided known held =
      units set (lits_of before) (hinted (held_in s) number) entry.lit (known (sym r.0)) r.2
      (All-get_or (λ clause. clause_value set clause ≡ true) (held_in s) number [] r.1 held)

  -- an entry at a place before a number
  before-true : (set : List Bool) (decision : ℕ) → Satisfies set s.clauses
      → ((entry : Entry) → Contains s.trail entry → entry.decision ≤ decision → entry.reason ≡ None → lit_value set entry.lit ≡ true)
      → (n place : ℕ) (entry : Entry) → place < n → slice_get s.trail place ≡ Some entry → entry.decision ≤ decision → lit_value set entry.lit ≡ true
  before-true set decision satisfied decided zero place entry below at early = absurd (omega arith)
  before-true set decision satisfied decided (suc n) place entry below at early =
      reason-true set (take place s.trail) entry entry.reason refl (search.trail place entry at).reason
      (λ none. decided entry (Contains-at s.trail place entry at) early none)
      (λ same. All-map (λ l. lit_value set l ≡ true) (λ (e : Entry). e.lit) (take place s.trail)
      (All-weaker (Contains (take place s.trail)) (λ (e : Entry). lit_value set e.lit ≡ true)
      (λ e here. let there = before-place s.trail place e here in
      before-true set decision satisfied decided n there.0 e (omega (arith, there.1, below)) there.2 (omega (arith, decision-le (take place s.trail) e here, same, early)))
      (take place s.trail) (All-contains_itself (take place s.trail))))
      (held-true set satisfied)

  pub trail-follows : FollowsFromDecisions s
  trail-follows set decision satisfied decided entry stands early =
      let place = place-of s.trail entry stands in
      before-true set decision satisfied decided (suc place.0) place.0 entry (omega arith) place.1 early
