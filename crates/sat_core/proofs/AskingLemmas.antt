-- Which literal leads a trail, and what a question's answer follows from.
use Rattle.std.proofs.Common.{◌≡◌, ℕ, ◌+◌, ◌<◌, ◌≤◌, ◌⊎◌, inr, ⊎_elim, Bool, MatchBool, eqb, true, false, not, ◌||◌, if◌then◌else◌, List, [], ◌∷◌, ◌++◌, length, map, take, slice_index_or, Option, Some, None, All, Contains, sym, ap, subst, ◌∙◌, append_assoc, append-nil, arith}
use Rattle.std.proofs.lemmas.Bool.{cases_Bool}
use Rattle.std.proofs.lemmas.Bool.Decides.{eqb_tells}
use Rattle.std.proofs.lemmas.List.Elements.{All-append, All-get_or, All-head, All-map, All-tail, Contains-push_cases}
use Rattle.std.proofs.lemmas.List.Sums.{AllPass-from_list_all}
use Rattle.std.proofs.lemmas.Option.{none-some}
use Rattle.sat_cnf.specs.declared.lit.Lit.{Lit}
use Rattle.sat_cnf.specs.Lits.{is_negated, negation_of, variable_of}
use Rattle.sat_cnf.specs.Models.{HasNoModel, Satisfies, clause_value, lit_value}
use Rattle.sat_proof.specs.Propagation.{IsFalse, IsFalsified}
use Rattle.sat_proof.specs.Refutations.{hinted}
use Rattle.sat_proof.specs.declared.step.Step.{Step}
use Rattle.sat_core.specs.declared.entry.Entry.{Entry}
use Rattle.sat_core.specs.Asking.{KeepsLeads, Leads}
use Rattle.sat_core.specs.declared.phase.Phase.{Phase}
use Rattle.sat_core.specs.declared.phase.Phase.TheVariants.{Fresh, Struck}
use Rattle.sat_core.specs.Searching.{ArePropagated, FollowsFromClauses, FollowsFromDecisions, IsInPhase, IsNotStruck, Propagates, State, held_in}
use Rattle.sat_core.specs.Solving.{ComesFurther, cnf_of}
use Rattle.sat_core.specs.Trails.{IsTrail, IsTrueUnder, decisions_of, lits_of, under}
use Rattle.sat_core.proofs.ConflictTrailLemmas.{decided-above}
use Rattle.sat_core.proofs.LiteralLemmas.{above_or_under, variable-negation}
use Rattle.sat_core.proofs.PlaceLemmas.{place-of}
use Rattle.sat_core.proofs.TrailLemmas.{IsTrueUnder-append, IsTrueUnder-push, IsTrueUnder-under, decision-le, entry-of, in-order, never-both, true-from_under, under-Contains, under-from_true}

-- A literal that leads a trail.

-- nothing is decided where no decision stands
pub leads-none : (vars : ℕ) (held : List (List Lit)) (entries : List Entry) → IsTrail vars held entries → decisions_of entries ≡ 0 → (lit : Lit) → Leads lit entries
leads-none vars held entries trail none lit entry stands decided =
    let place = place-of entries entry stands in
    let above = decided-above held (take place.0 entries) entry.lit entry.decision entry.reason decided (trail place.0 entry place.1).reason in
    absurd (omega (arith, above, none, decision-le entries entry stands))

pub leads-under : (back : ℕ) (entries : List Entry) → KeepsLeads entries (under back entries)
leads-under back entries lit leads entry stands decided =
    let (there, early) = under-Contains back entries entry stands in
    let (decision, t, low) = leads entry there decided in
    (decision, IsTrueUnder-under back entries lit decision t (omega (arith, low, early)), low)

leads-push : (entries : List Entry) (last : Entry) (lit : Lit) → Leads lit entries
    → (last.reason ≡ None → (decision : ℕ) × IsTrueUnder (entries ++ last ∷ []) lit decision × (decision ≤ last.decision)) → Leads lit (entries ++ last ∷ [])
leads-push entries last lit leads new entry stands decided =
    ⊎_elim
    (λ there. let (decision, t, low) = leads entry there decided in (decision, IsTrueUnder-append entries (last ∷ []) lit decision t, low))
    (λ same.
    let (decision, t, low) = new (ap (λ (e : Entry). e.reason) same ∙ decided) in
    (decision, t, subst (λ (e : Entry). decision ≤ e.decision) same low))
    (Contains-push_cases entries last entry stands)

-- one literal more that isn't decided
pub leads-implied : (entries : List Entry) (last : Entry) (number : ℕ) → last.reason ≡ Some number → KeepsLeads entries (entries ++ last ∷ [])
leads-implied entries last number implied lit leads =
    leads-push entries last lit leads (λ none. absurd (none-some number (sym none ∙ implied)))

pub leads-propagated : (held : List (List Lit)) (before more : List Entry) → ArePropagated held before more → KeepsLeads before (before ++ more)
leads-propagated held before [] p lit leads = subst (Leads lit) (sym (append-nil before)) leads
leads-propagated held before (entry ∷ entries) p lit leads =
    subst (Leads lit) (append_assoc before (entry ∷ []) entries)
    (leads-propagated held (before ++ entry ∷ []) entries p.2 lit (leads-implied before entry p.0.0 p.0.1 lit leads))

-- one that is decided, where the leading literal is true
pub leads-decided : (entries : List Entry) (last : Entry) (lit : Lit) → last.decision ≡ decisions_of entries + 1 → Contains (lits_of entries) lit → Leads lit entries
    → Leads lit (entries ++ last ∷ [])
leads-decided entries last lit next stands leads =
    leads-push entries last lit leads
    (λ _. let (decision, t, low) = under-from_true entries lit stands in (decision, IsTrueUnder-append entries (last ∷ []) lit decision t, omega (arith, low, next)))

-- or where it is the leading literal itself
pub leads-itself : (entries : List Entry) (last : Entry) → Leads last.lit entries → Leads last.lit (entries ++ last ∷ [])
leads-itself entries last leads = leads-push entries last last.lit leads (λ _. (last.decision, IsTrueUnder-push entries last, omega arith))

-- What the calls of a round keep.

pub propagated-cnf : (old new : State) (found : Option ℕ) → Propagates old new found → cnf_of new ≡ cnf_of old
propagated-cnf old new found p = λ i. record { vars = p.vars_same i; list = p.clauses_same i }

pub further-cnf : (old new : State) → ComesFurther old new → cnf_of new ≡ cnf_of old
further-cnf old new f = λ i. record { vars = f.vars_same i; list = f.clauses_same i }

pub leads-grown : (old new : State) (found : Option ℕ) → Propagates old new found → KeepsLeads old.trail new.trail
leads-grown old new found p lit leads = subst (Leads lit) (sym p.trail_is) (leads-propagated (held_in old) old.trail p.more p.propagated lit leads)

pub fresh-phase : (phase : Phase) → phase ≡ Fresh → IsNotStruck phase
fresh-phase phase e = subst IsNotStruck (sym e) (search)

pub fresh-after : (phase before : Phase) → before ≡ Fresh → (phase ≡ Fresh) ⊎ (phase ≡ before) → IsNotStruck phase
fresh-after phase before fresh = ⊎_elim (λ e. fresh-phase phase e) (λ e. fresh-phase phase (e ∙ fresh))

-- What no set does.

-- no set makes a literal and its negation true
apart-values : (set : List Bool) (lit : Lit) → lit_value set lit ≡ true → lit_value set (negation_of lit) ≡ true → ⊥
apart-values set lit a b =
    let value : Bool = slice_index_or set (variable_of lit) false in
    let other : Bool = slice_index_or set (variable_of (negation_of lit)) false in
    let same : other ≡ value = ap (λ v. slice_index_or set v false) (variable-negation lit) in
    let at : (negated : Bool) → is_negated lit ≡ negated → (if negated then not value else value) ≡ true =
    λ negated e. ap (λ n. if n then not value else value) (sym e) ∙ a in
    let there : (negated : Bool) → is_negated (negation_of lit) ≡ negated → (if negated then not other else other) ≡ true =
    λ negated e. ap (λ n. if n then not other else other) (sym e) ∙ b in
    ⊎_elim
    (λ p. ⊎_elim (λ q. absurd (omega (arith, p, q)))
    (λ q. let x : not value ≡ true = at true p.0 in let y : other ≡ true = there false q.0 in absurd (cc)) (above_or_under (negation_of lit)))
    (λ p. ⊎_elim (λ q. let x : value ≡ true = at false p.0 in let y : not other ≡ true = there true q.0 in absurd (cc))
    (λ q. absurd (omega (arith, p, q))) (above_or_under (negation_of lit)))
    (above_or_under lit)

module _ (s : State) (trail : IsTrail s.vars (held_in s) s.trail) (follows : FollowsFromDecisions s) where
  -- what is false where it leads is false in each set that satisfies the clauses
  pub denied : (lit : Lit) → Leads lit s.trail → IsFalse (lits_of s.trail) lit → (set : List Bool) → Satisfies set s.clauses → ¬ (lit_value set lit ≡ true)
  denied lit leads unlike set satisfied holds =
      let (entry, stands, is) = entry-of s.trail (negation_of lit) unlike in
      let true_there : lit_value set entry.lit ≡ true =
      follows set (decisions_of s.trail) satisfied
      (λ other there early decided.
      let (decision, t, low) = leads other there decided in
      absurd (never-both s.vars s.trail (in-order s.vars (held_in s) s.trail trail) lit (true-from_under s.trail lit decision t) unlike))
      entry stands (decision-le s.trail entry stands) in
      apart-values set lit holds (subst (λ l. lit_value set l ≡ true) is true_there)

  module _ (none : decisions_of s.trail ≡ 0) (steps : FollowsFromClauses s) where
    clause-false : (set : List Bool) → Satisfies set s.clauses → (clause : List Lit) → IsFalsified (lits_of s.trail) clause → clause_value set clause ≡ true → ⊥
    clause-false set satisfied [] f holds = absurd (cc)
    clause-false set satisfied (lit ∷ lits) f holds =
        let fails = denied lit (leads-none s.vars (held_in s) s.trail trail none lit) (All-head (IsFalse (lits_of s.trail)) lit lits f) set satisfied in
        ⊎_elim fails
        (λ e. clause-false set satisfied lits (All-tail (IsFalse (lits_of s.trail)) lit lits f) (ap (λ b. b || clause_value set lits) (sym e) ∙ holds))
        (cases_Bool (lit_value set lit))

    -- no set satisfies clauses of which one is false with no decision made
    pub refuted : (number : ℕ) → number < length (held_in s) → IsFalsified (lits_of s.trail) (hinted (held_in s) number) → HasNoModel s.clauses
    refuted number within f set satisfied =
        let held : All (λ clause. clause_value set clause ≡ true) (held_in s) =
        All-append (λ clause. clause_value set clause ≡ true) s.clauses (map (λ (step : Step). step.clause) s.steps)
        (AllPass-from_list_all (clause_value set) s.clauses satisfied)
        (All-map (λ clause. clause_value set clause ≡ true) (λ (step : Step). step.clause) s.steps (steps set satisfied)) in
        clause-false set satisfied (hinted (held_in s) number) f (All-get_or (λ clause. clause_value set clause ≡ true) (held_in s) number [] within held)

-- so a struck search tells that no set does, or it has decided something
pub struck-tells : (s : State) → IsTrail s.vars (held_in s) s.trail → FollowsFromDecisions s → FollowsFromClauses s → (number : ℕ) → IsInPhase s (Struck number)
    → (decisions : ℕ) → decisions ≡ decisions_of s.trail → MatchBool (eqb decisions 0) (HasNoModel s.clauses) (IsNotStruck s.phase ⊎ (0 < decisions_of s.trail))
struck-tells s trail follows steps number struck decisions same =
    ⊎_elim
    (λ p. rw p.0 (refuted s trail follows (sym same ∙ p.1) steps number struck.0 struck.1.0))
    (λ p. let some : 0 < decisions_of s.trail = omega (arith, same, p.1) in rw p.0 (inr some))
    (eqb_tells decisions 0)
