-- Where a set satisfies the clauses, it satisfies each good step; so it doesn't where the last one is empty.
use Rattle.std.proofs.Common.{◌≡◌, ℕ, zero, suc, ◌-◌, ◌<◌, ◌≤◌, ◌↔◌, IsTrue, IfOk, Result, Bool, true, false, not, List, [], ◌∷◌, ◌++◌, length, map, take, Some, slice_get, All, refl, sym, ap, subst, ◌∙◌, ◌⊎◌, ⊎_elim, arith, append_assoc}
use Rattle.std.proofs.Math.Seq.{take-suc}
use Rattle.std.proofs.lemmas.Bool.{cases_Bool}
use Rattle.std.proofs.lemmas.List.{map-append, nil_from_length, take_all}
use Rattle.std.proofs.lemmas.Result.{IfOk-weaker}
use Rattle.std.proofs.lemmas.List.Elements.{All-append, All-contains, All-cons, All-get_or, All-head, All-map, All-nil, All-push, All-tail, All-weaker, Contains-push}
use Rattle.std.proofs.lemmas.List.Folds.{list_any_none}
use Rattle.std.proofs.lemmas.List.Sums.{AllPass-from_list_all}
use Rattle.std.proofs.lemmas.Option.{get_or_from_slice_get, slice_get_within}
use Rattle.sat_cnf.specs.declared.lit.Lit.{Lit}
use Rattle.sat_cnf.specs.Lits.{negation_of}
use Rattle.sat_cnf.specs.Models.{HasNoModel, Satisfies, clause_value, lit_value}
use Rattle.sat_proof.specs.Propagation.{IsFalse, IsFalsified, IsUnit, Refutes}
use Rattle.sat_proof.specs.Refutations.{AreGood, EndsEmpty, Follows, IsRefutation, held_with, hinted}
use Rattle.sat_proof.specs.declared.step.Step.{Step}
use Rattle.sat_proof.proofs.LitLemmas.{value-negation}

not-true : (a : Bool) → true ≡ not a → a ≡ false
not-true true e = absurd (cc)
not-true false e = refl

both-ways : (a : Bool) → a ≡ true → a ≡ false → ⊥
both-ways true p q = cc
both-ways false p q = cc

none-true : (set : List Bool) (clause : List Lit) → clause_value set clause ≡ false → All (λ lit. lit_value set (negation_of lit) ≡ true) clause
none-true set [] e = All-nil (λ lit. lit_value set (negation_of lit) ≡ true)
none-true set (lit ∷ clause) e =
    ⊎_elim (λ yes. absurd (both-ways (clause_value set (lit ∷ clause)) (rw yes refl) e))
    (λ no. All-cons (λ l. lit_value set (negation_of l) ≡ true) lit clause (value-negation set lit ∙ ap not no)
    (none-true set clause (rw no at e)))
    (cases_Bool (lit_value set lit))

pub held-push : (clauses : List (List Lit)) (steps : List Step) (step : Step) → held_with clauses (steps ++ step ∷ []) ≡ held_with clauses steps ++ step.clause ∷ []
held-push clauses steps step =
    ap (λ more. clauses ++ more) (map-append (λ s. s.clause) steps (step ∷ []))
    ∙ sym (append_assoc clauses (map (λ s. s.clause) steps) (step.clause ∷ []))

-- what one more step adds
pub held-next : (clauses : List (List Lit)) (steps : List Step) (n : ℕ) (step : Step) → slice_get steps n ≡ Some step
    → held_with clauses (take (suc n) steps) ≡ held_with clauses (take n steps) ++ step.clause ∷ []
held-next clauses steps n step h =
    ap (held_with clauses)
    (take-suc steps n step (slice_get_within steps n step h) ∙ ap (λ s. take n steps ++ s ∷ []) (get_or_from_slice_get steps n step step h))
    ∙ held-push clauses (take n steps) step

module _ (set : List Bool) where
  abbrev AreTrue : List Lit → Type 0
  AreTrue known = All (λ lit. lit_value set lit ≡ true) known

  abbrev AreSatisfied : List (List Lit) → Type 0
  AreSatisfied clauses = All (λ clause. clause_value set clause ≡ true) clauses

  false-lit : (known : List Lit) (lit : Lit) → AreTrue known → IsFalse known lit → lit_value set lit ≡ false
  false-lit known lit h f =
      not-true (lit_value set lit) (sym (All-contains (λ l. lit_value set l ≡ true) known (negation_of lit) h f) ∙ value-negation set lit)

  falsified-false : (known clause : List Lit) → AreTrue known → IsFalsified known clause → clause_value set clause ≡ false
  falsified-false known clause h f =
      list_any_none (lit_value set) clause (All-weaker (IsFalse known) (λ lit. lit_value set lit ≡ false) (λ lit. false-lit known lit h) clause f)

  pub unit-true : (known clause : List Lit) (lit : Lit) → AreTrue known → IsUnit known clause lit → clause_value set clause ≡ true → lit_value set lit ≡ true
  unit-true known clause lit h unit holds =
      ⊎_elim (λ e. e)
      (λ no. absurd (
      both-ways (clause_value set clause) holds (
      list_any_none (lit_value set) clause (
      All-weaker (λ other. (other ≡ lit) ⊎ IsFalse known other) (λ other. lit_value set other ≡ false)
      (λ other. ⊎_elim (λ e. ap (lit_value set) e ∙ no) (false-lit known other h)) clause unit.alone
      )
      )
      ))
      (cases_Bool (lit_value set lit))

  -- clauses that are true aren't refuted
  not-refuted : (clauses : List (List Lit)) (known : List Lit) → AreTrue known → AreSatisfied clauses → Refutes known clauses → ⊥
  not-refuted [] known h all r = r
  not-refuted (clause ∷ clauses) known h all r =
      let holds : clause_value set clause ≡ true = All-head (λ c. clause_value set c ≡ true) clause clauses all in
      ⊎_elim (λ f. both-ways (clause_value set clause) holds (falsified-false known clause h f))
      (λ u. not-refuted clauses (known ++ u.0 ∷ [])
      (All-push (λ lit. lit_value set lit ≡ true) known u.0 h (unit-true known clause u.0 h u.1 holds))
      (All-tail (λ c. clause_value set c ≡ true) clause clauses all) u.2)
      r

  follows-true : (held : List (List Lit)) (step : Step) → AreSatisfied held → Follows held step → clause_value set step.clause ≡ true
  follows-true held step all f =
      ⊎_elim (λ yes. yes)
      (λ no. absurd (
      not-refuted (map (hinted held) step.hints) (map negation_of step.clause)
      (All-map (λ lit. lit_value set lit ≡ true) negation_of step.clause (none-true set step.clause no))
      (All-map (λ c. clause_value set c ≡ true) (hinted held) step.hints (
      All-weaker (λ hint. hint < length held) (λ hint. clause_value set (hinted held hint) ≡ true)
      (λ hint h. All-get_or (λ c. clause_value set c ≡ true) held hint [] h all) step.hints f.known
      ))
      f.refuted
      ))
      (cases_Bool (clause_value set step.clause))

  steps-true : (clauses : List (List Lit)) (steps : List Step) → AreGood clauses steps → AreSatisfied clauses → (n : ℕ) → n ≤ length steps → AreSatisfied (held_with clauses (take n steps))
  steps-true clauses steps good all zero h = All-append (λ c. clause_value set c ≡ true) clauses [] all (All-nil (λ c. clause_value set c ≡ true))
  steps-true clauses steps good all (suc n) h =
      let before = steps-true clauses steps good all n (omega arith) in
      let within : n < length steps = omega arith in
      let g = good n within in
      let holds = follows-true (held_with clauses (take n steps)) g.0 before g.2 in
      rw (held-next clauses steps n g.0 g.1)
      (All-push (λ c. clause_value set c ≡ true) (held_with clauses (take n steps)) g.0.clause before holds)

-- a set that satisfies the clauses makes the clauses of good steps true
pub good-true : (set : List Bool) (clauses : List (List Lit)) (steps : List Step) → AreGood clauses steps → Satisfies set clauses → All (λ step. clause_value set step.clause ≡ true) steps
good-true set clauses steps good satisfied =
    let all = AllPass-from_list_all (clause_value set) clauses satisfied in
    λ place other below.
    let g = good place below in
    let before = steps-true set clauses steps good all place (omega arith) in
    let holds = follows-true set (held_with clauses (take place steps)) g.0 before g.2 in
    subst (λ s. clause_value set s.clause ≡ true) (sym (get_or_from_slice_get steps place g.0 other g.1)) holds

pub refutation-sound : (clauses : List (List Lit)) (steps : List Step) → IsRefutation clauses steps → HasNoModel clauses
refutation-sound clauses steps r set satisfied =
    let all = AllPass-from_list_all (clause_value set) clauses satisfied in
    let every = steps-true set clauses steps r.good all (length steps) (omega arith) in
    let (before, last, split, empty) = r.ends in
    let held : AreSatisfied set (held_with clauses steps) =
    subst (λ s. AreSatisfied set (held_with clauses s)) (take_all (length steps) steps (omega arith)) every in
    let there : AreSatisfied set (held_with clauses before ++ last.clause ∷ []) =
    subst (λ h. AreSatisfied set h) (ap (held_with clauses) split ∙ held-push clauses before last) held in
    let ends_true : clause_value set last.clause ≡ true =
    All-contains (λ c. clause_value set c ≡ true) (held_with clauses before ++ last.clause ∷ []) last.clause there
    (Contains-push (held_with clauses before) last.clause) in
    both-ways (clause_value set []) (subst (λ c. clause_value set c ≡ true) empty ends_true) refl

-- the last step has the empty clause where the step at the last place has it
pub ends-empty : (steps : List Step) (last : Step) → slice_get steps (length steps - 1) ≡ Some last → length last.clause ≡ 0 → EndsEmpty steps
ends-empty steps last found empty =
    let within = slice_get_within steps (length steps - 1) last found in
    let all : take (suc (length steps - 1)) steps ≡ steps = take_all (suc (length steps - 1)) steps (omega arith) in (
      take (length steps - 1) steps,
      last,
      sym all ∙ take-suc steps (length steps - 1) last within
          ∙ ap (λ s. take (length steps - 1) steps ++ s ∷ []) (get_or_from_slice_get steps (length steps - 1) last last found),
      nil_from_length last.clause empty,
    )

pub judged : {E : Type 0} (clauses : List (List Lit)) (steps : List Step) (r : Result Bool E) → EndsEmpty steps
    → IfOk r (λ b. IsTrue b ↔ AreGood clauses steps) → IfOk r (λ b. IsTrue b ↔ IsRefutation clauses steps)
judged clauses steps r ends h =
    IfOk-weaker r (λ b. IsTrue b ↔ AreGood clauses steps) (λ b. IsTrue b ↔ IsRefutation clauses steps)
    (λ b k. (λ t. record { good = k.0 t; ends = ends }, λ f. k.1 f.good)) h

pub judged-sound : {E : Type 0} (clauses : List (List Lit)) (steps : List Step) (r : Result Bool E)
    → IfOk r (λ b. IsTrue b ↔ IsRefutation clauses steps) → IfOk r (λ b. IsTrue b → HasNoModel clauses)
judged-sound clauses steps r h =
    IfOk-weaker r (λ b. IsTrue b ↔ IsRefutation clauses steps) (λ b. IsTrue b → HasNoModel clauses)
    (λ b k t. refutation-sound clauses steps (k.0 t)) h
