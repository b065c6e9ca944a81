-- How far a search has come, what a learned clause asserts, and models.
use Rattle.std.proofs.Common.{◌≡◌, ◌≢◌, ℕ, zero, suc, ◌+◌, ◌-◌, ◌*◌, ◌%◌, ◌^◌, ◌<◌, ◌≤◌, ◌⊎◌, inl, inr, ⊎_elim, Bool, true, false, not, List, [], ◌∷◌, ◌++◌, length, map, take, slice_get, slice_index_or, Option, Some, None, All, Contains, refl, sym, ap, subst, ◌∙◌, add_assoc, arith}
use Rattle.std.proofs.Math.Nat.{mul-le-mul_right, one-le-pow, pow-le-pow_right, pow-suc}
use Rattle.std.proofs.lemmas.Bool.{cases_Bool, cases_lt}
use Rattle.std.proofs.lemmas.Bool.Decides.{eqb_tells}
use Rattle.std.proofs.Math.Seq.{take-append_seam}
use Rattle.std.proofs.lemmas.List.{get_or_append_left, length-append, take-append-le}
use Rattle.std.proofs.lemmas.List.Elements.{All-contains, All-head, All-nil, All-cons, All-push, All-tail, All-weaker}
use Rattle.std.proofs.lemmas.List.Sums.{list_all-from_AllPass}
use Rattle.std.proofs.lemmas.Option.{get_or_from_slice_get}
use Rattle.std.specs.Option.{is_some}
use Rattle.sat_cnf.specs.declared.lit.Lit.{Lit}
use Rattle.sat_cnf.specs.Clauses.{IsWithin}
use Rattle.sat_cnf.specs.Lits.{negation_of, variable_of}
use Rattle.sat_cnf.specs.Models.{Satisfies, clause_value, lit_value}
use Rattle.sat_proof.specs.Propagation.{IsFalse, IsUndecided, IsUnit}
use Rattle.sat_proof.specs.Refutations.{AreGood, AreWithin, Follows, IsRefutation, held_with}
use Rattle.sat_proof.specs.declared.step.Step.{Step}
use Rattle.sat_core.specs.declared.conflict.Learned.{Learned}
use Rattle.sat_core.specs.declared.entry.Entry.{Entry}
use Rattle.sat_core.specs.declared.phase.Phase.TheVariants.{Fresh}
use Rattle.sat_core.specs.Analysis.{IsAssertion, IsLearnedFrom}
use Rattle.sat_core.specs.Assigning.{AreInOrder}
use Rattle.sat_core.specs.Searching.{IsAsserting, IsOpen, Learns, Propagates, State, held_in}
use Rattle.sat_core.specs.Solving.{ComesFurther, EndsRun, IsTruthOf, ahead, weight}
use Rattle.sat_core.specs.Trails.{IsFalseUnder, IsTrail, IsValueOf, decisions_of, lits_of, under}
use Rattle.sat_core.proofs.LiteralLemmas.{negation-negation, same-lit, same-variable, variable-within}
use Rattle.sat_core.proofs.KnownLemmas.{IsUndecided-negation}
use Rattle.sat_core.proofs.PlaceLemmas.{left-place, seam-place}
use Rattle.sat_core.proofs.TrailLemmas.{IsTrueUnder-under, decisions-few, decisions_of-under, entries-few, in-order, never-both, one-decision, true-from_under, under-first, under-from_true, under-IsTrueUnder}

-- The weight of a trail.

pub weight-append : (vars : ℕ) (xs ys : List Entry) → weight vars (xs ++ ys) ≡ weight vars xs + weight vars ys
weight-append vars [] ys = omega arith
weight-append vars (x ∷ xs) ys =
    ap (λ n. (vars + 1) ^ (vars - x.decision) + n) (weight-append vars xs ys)
    ∙ sym (add_assoc ((vars + 1) ^ (vars - x.decision)) (weight vars xs) (weight vars ys))

-- a list of entries none of which counts more than so much
weight-most : (vars most : ℕ) (entries : List Entry) → All (λ entry. (vars + 1) ^ (vars - entry.decision) ≤ most) entries → weight vars entries ≤ length entries * most
weight-most vars most [] h = omega arith
weight-most vars most (x ∷ xs) h =
    let first = All-head (λ entry. (vars + 1) ^ (vars - entry.decision) ≤ most) x xs h in
    let rest = weight-most vars most xs (All-tail (λ entry. (vars + 1) ^ (vars - entry.decision) ≤ most) x xs h) in
    omega (arith, first, rest)

power-le : (vars i j : ℕ) → i ≤ j → (vars + 1) ^ i ≤ (vars + 1) ^ j
power-le vars i j h = pow-le-pow_right (omega arith) h

power-suc : (vars n : ℕ) → (vars + 1) ^ (n + 1) ≡ vars * (vars + 1) ^ n + (vars + 1) ^ n
power-suc vars n =
    let e : (vars + 1) ^ (n + 1) ≡ (vars + 1) ^ n * (vars + 1) = ap (λ k. (vars + 1) ^ k) (omega arith) ∙ pow-suc (vars + 1) n in
    omega (arith, e)

power-some : (vars n : ℕ) → 0 < (vars + 1) ^ n
power-some vars n = omega (arith, one-le-pow n (vars + 1) (omega arith))

all-of : {X : Type 0} (P : X → Type 0) → ((x : X) → P x) → (xs : List X) → All P xs
all-of P h xs k d l = h (slice_index_or xs k d)

pub weight-short : (vars : ℕ) (entries : List Entry) → length entries ≤ vars → weight vars entries < (vars + 1) ^ (vars + 1)
weight-short vars entries few =
    let most = weight-most vars ((vars + 1) ^ vars) entries
    (all-of (λ entry. (vars + 1) ^ (vars - entry.decision) ≤ (vars + 1) ^ vars) (λ entry. power-le vars (vars - entry.decision) vars (omega arith)) entries) in
    let times = mul-le-mul_right ((vars + 1) ^ vars) few in
    omega (arith, most, times, power-suc vars vars, power-some vars vars)

pub weight-push : (vars : ℕ) (entries : List Entry) (entry : Entry) → weight vars entries < weight vars (entries ++ entry ∷ [])
weight-push vars entries entry = omega (arith, weight-append vars entries (entry ∷ []), power-some vars (vars - entry.decision))

-- what stands under later decisions counts less than one literal under this one
weight-later : (vars back : ℕ) (more : List Entry) → back < vars → length more ≤ vars → All (λ entry. back < entry.decision) more → weight vars more < (vars + 1) ^ (vars - back)
weight-later vars back more below few later =
    let step = vars - back - 1 in
    let most = weight-most vars ((vars + 1) ^ step) more
    (All-weaker (λ entry. back < entry.decision) (λ entry. (vars + 1) ^ (vars - entry.decision) ≤ (vars + 1) ^ step)
    (λ entry h. power-le vars (vars - entry.decision) step (omega (arith, h, below))) more later) in
    let times = mul-le-mul_right ((vars + 1) ^ step) few in
    let same : (vars + 1) ^ (vars - back) ≡ (vars + 1) ^ (step + 1) = ap (λ k. (vars + 1) ^ k) (omega (arith, below)) in
    omega (arith, most, times, same, power-suc vars step, power-some vars step)

pub weight-further : (vars bound : ℕ) (first more now last : List Entry) → now ≡ first ++ more → weight vars now < weight vars last → weight vars now < bound
    → bound - weight vars last < bound - weight vars first
weight-further vars bound first more now last e further short =
    omega (arith, ap (weight vars) e ∙ weight-append vars first more, further, short)

-- a round of the search
round-further : (vars : ℕ) (old middle new : State) (found : Option ℕ) → old.vars ≡ vars → Propagates old middle found → ComesFurther middle new
    → (vars + 1) ^ (vars + 1) - weight vars new.trail < (vars + 1) ^ (vars + 1) - weight vars old.trail
round-further vars old middle new found e p f =
    let same : middle.vars ≡ vars = p.vars_same ∙ e in
    let further = subst (λ v. weight v middle.trail < weight v new.trail) same f.further in
    let short = subst (λ v. weight v middle.trail < (v + 1) ^ (v + 1)) same f.short in
    weight-further vars ((vars + 1) ^ (vars + 1)) old.trail p.more middle.trail new.trail p.trail_is further short

-- the same, within a run
pub round-within : (vars runs : ℕ) (old middle new : State) (found : Option ℕ) → old.vars ≡ vars → Propagates old middle found → ComesFurther middle new
    → ahead vars runs new.trail < ahead vars runs old.trail
round-within vars runs old middle new found e p f = omega (arith, round-further vars old middle new found e p f)

-- a round with which a run may end
pub round-ends : (vars : ℕ) (old middle back new : State) (found : Option ℕ) (before after : ℕ) → old.vars ≡ vars → Propagates old middle found → ComesFurther middle back
    → EndsRun back before new after → ahead vars after new.trail < ahead vars before old.trail
round-ends vars old middle back new found before after e p f ends =
    let further = round-further vars old middle back found e p f in
    ⊎_elim
    (λ fewer.
    let bound = (vars + 1) ^ (vars + 1) in
    let runs : suc after * bound ≤ before * bound = mul-le-mul_right bound (omega (arith, fewer)) in
    let one : suc after * bound ≡ after * bound + bound = omega arith in
    omega (arith, further, runs, one))
    (λ (same, trail).
    let bound = (vars + 1) ^ (vars + 1) in
    let runs : after * bound ≡ before * bound = ap (λ n. n * bound) same in
    let weights : weight vars new.trail ≡ weight vars back.trail = ap (weight vars) trail in
    omega (arith, further, runs, weights))
    ends.fewer

-- After a jump back.

module _ (vars : ℕ) (held : List (List Lit)) (entries : List Entry) (trail : IsTrail vars held entries) (clause : List Lit) (back : ℕ) (a : IsAssertion entries clause back) where
  order : AreInOrder vars entries
  order = in-order vars held entries trail

  pub weight-learned : (entry : Entry) → entry.decision ≡ decisions_of (under back entries)
      → weight vars entries < weight vars (under back entries ++ entry ∷ [])
  weight-learned entry e =
      let (more, all, later) = under-first vars back entries order in
      let few = entries-few vars entries order in
      let parts : length entries ≡ length (under back entries) + length more = ap length all ∙ length-append (under back entries) more in
      let decision : entry.decision ≡ back = e ∙ decisions_of-under vars back entries order (omega (arith, a.earlier)) in
      let below : back < vars = omega (arith, a.earlier, decisions-few vars entries order, few) in
      let less = weight-later vars back more below (omega (arith, parts, few)) later in
      let old = ap (weight vars) all ∙ weight-append vars (under back entries) more in
      let new = weight-append vars (under back entries) (entry ∷ []) in
      let last : (vars + 1) ^ (vars - entry.decision) ≡ (vars + 1) ^ (vars - back) = ap (λ d. (vars + 1) ^ (vars - d)) decision in
      omega (arith, less, old, new, last)

  last-false : IsFalseUnder entries a.lit (decisions_of entries)
  last-false = a.last

  -- what is false up to the decision to which the search goes back is another literal
  differs : (other : Lit) (decision : ℕ) → IsFalseUnder entries other decision → decision ≤ back → other ≢ a.lit
  differs other decision f low same =
      let g : IsFalseUnder entries a.lit decision = subst (λ l. IsFalseUnder entries l decision) same f in
      let e = one-decision vars entries order (negation_of a.lit) decision (decisions_of entries) g a.last in
      omega (arith, e, low, a.earlier)

  stays-false : (other : Lit) (decision : ℕ) → IsFalseUnder entries other decision → decision ≤ back → IsFalseUnder (under back entries) other decision
  stays-false other decision f low = IsTrueUnder-under back entries (negation_of other) decision f low

  no-more-true : Contains (lits_of (under back entries)) a.lit → ⊥
  no-more-true t =
      let (decision, u, low) = under-from_true (under back entries) a.lit t in
      let before = under-IsTrueUnder back entries a.lit decision u in
      never-both vars entries order a.lit (true-from_under entries a.lit decision before.0) (true-from_under entries (negation_of a.lit) (decisions_of entries) a.last)

  no-more-false : IsFalse (lits_of (under back entries)) a.lit → ⊥
  no-more-false t =
      let (decision, u, low) = under-from_true (under back entries) (negation_of a.lit) t in
      let before = under-IsTrueUnder back entries (negation_of a.lit) decision u in
      differs a.lit decision before.0 before.1 refl

  is-unit : IsUnit (lits_of (under back entries)) clause a.lit
  is-unit = record {
    stands = a.stands;
    undecided = (no-more-true, no-more-false);
    alone = All-weaker (λ other. (other ≡ a.lit) ⊎ ((decision : ℕ) × IsFalseUnder entries other decision × (decision ≤ back)))
        (λ other. (other ≡ a.lit) ⊎ IsFalse (lits_of (under back entries)) other)
        (λ other. ⊎_elim (λ same. inl same) (λ (decision, f, low). inr (true-from_under (under back entries) (negation_of other) decision (stays-false other decision f low))))
        clause a.others;
  }

  abbrev IsLast : Type 0
  IsLast = (All (λ other. other ≡ a.lit) clause × (decisions_of (under back entries) ≡ 0))
      ⊎ ((other : Lit) × Contains clause other × (other ≢ a.lit) × IsFalseUnder (under back entries) other (decisions_of (under back entries)))

  kept : decisions_of (under back entries) ≡ back
  kept = decisions_of-under vars back entries order (omega (arith, a.earlier))

  one-last : (other : Lit) → Contains clause other → IsFalseUnder entries other back → IsLast
  one-last other stands f =
      inr (other, stands, differs other back f (omega arith), subst (IsFalseUnder (under back entries) other) (sym kept) (stays-false other back f (omega arith)))

  abbrev IsEarlier : Lit → Type 0
  IsEarlier other = (decision : ℕ) × IsFalseUnder entries other decision × (decision ≤ back)

  -- all are this literal, or one is false up to there
  alone-or-earlier : (literals : List Lit) → All (λ other. (other ≡ a.lit) ⊎ IsEarlier other) literals
      → All (λ other. other ≡ a.lit) literals ⊎ ((other : Lit) × Contains literals other × IsEarlier other)
  alone-or-earlier [] h = inl (All-nil (λ other. other ≡ a.lit))
  alone-or-earlier (x ∷ xs) h =
      ⊎_elim
      (λ same. ⊎_elim (λ all. inl (All-cons (λ other. other ≡ a.lit) x xs same all))
      (λ (other, (k, within, there), early). inr (other, (suc k, omega (arith, within), there), early))
      (alone-or-earlier xs (All-tail (λ other. (other ≡ a.lit) ⊎ IsEarlier other) x xs h)))
      (λ early. inr (x, (0, omega arith, refl), early))
      (All-head (λ other. (other ≡ a.lit) ⊎ IsEarlier other) x xs h)

  is-last : IsLast
  is-last =
      ⊎_elim
      (λ none. ⊎_elim (λ all. inl (all, kept ∙ none))
      (λ (other, stands, (decision, f, low)).
      let e : decision ≡ back = omega (arith, low, none) in
      one-last other stands (subst (IsFalseUnder entries other) e f))
      (alone-or-earlier clause a.others))
      (λ (other, stands, f). one-last other stands f)
      a.greatest

  pub asserting : (lit : Lit) × IsAsserting (under back entries) clause lit
  asserting = (a.lit, record { unit = is-unit; last = is-last })

-- One good step more.

pub good-push : (clauses : List (List Lit)) (steps : List Step) (last : Step) → AreGood clauses steps → Follows (held_with clauses steps) last → AreGood clauses (steps ++ last ∷ [])
good-push clauses steps last good follows place within =
    ⊎_elim
    (λ lt.
    let (step, at, f) = good place lt in
    let same : take place (steps ++ last ∷ []) ≡ take place steps = take-append-le place steps (last ∷ []) (omega (arith, lt)) in
    (step, left-place steps (last ∷ []) place step at, subst (λ before. Follows (held_with clauses before) step) (sym same) f))
    (λ ge.
    let e : place ≡ length steps = omega (arith, ge, within, length-append steps (last ∷ [])) in
    let same : take place (steps ++ last ∷ []) ≡ steps = ap (λ k. take k (steps ++ last ∷ [])) e ∙ take-append_seam steps (last ∷ []) in (
      last,
      subst (λ k. slice_get (steps ++ last ∷ []) k ≡ Some last) (sym e) (seam-place steps last []),
      subst (λ before. Follows (held_with clauses before) last) (sym same) follows,
    ))
    (cases_lt place (length steps))

-- Models.

all-left : {X : Type 0} (P : X → Type 0) (xs ys : List X) → All P (xs ++ ys) → All P xs
all-left P xs ys h k d l = subst P (get_or_append_left xs ys d k l) (h k d (omega (arith, l, length-append xs ys)))

module _ (set : List Bool) (vars : ℕ) (known : List Lit)
    (truths : (variable : ℕ) → variable < vars → IsTruthOf known (record { 0 = 2 * variable }) (slice_index_or set variable false)) where
  pub lit-true : (lit : Lit) → IsWithin vars lit → Contains known lit → lit_value set lit ≡ true
  lit-true lit within stands =
      let even : Lit = record { 0 = 2 * variable_of lit } in
      let truth = truths (variable_of lit) (variable-within vars lit within) in
      ⊎_elim
      (λ p.
      let e : lit ≡ negation_of even = ⊎_elim (λ same. absurd (omega (arith, ap (λ l. l.0) same, p.1))) (λ other. other) (same-variable lit even (omega arith)) in
      rw p.0 (ap not (truth.when_false (subst (Contains known) e stands))))
      (λ p.
      let e : lit ≡ even = same-lit lit even (omega (arith, p.1)) in
      rw p.0 (truth.when_true (subst (Contains known) e stands)))
      (eqb_tells (lit.0 % 2) 1)

  contains-any : (clause : List Lit) (lit : Lit) → Contains clause lit → lit_value set lit ≡ true → clause_value set clause ≡ true
  contains-any [] lit (k, within, there) so = absurd (omega (arith, within))
  contains-any (x ∷ xs) lit (zero, within, there) so = let e : lit_value set x ≡ true = ap (lit_value set) there ∙ so in rw e refl
  contains-any (x ∷ xs) lit (suc k, within, there) so =
      ⊎_elim (λ t. rw t refl) (λ f. rw f (contains-any xs lit (k, omega (arith, within), there) so)) (cases_Bool (lit_value set x))

  module _ (decided : (lit : Lit) → IsWithin vars lit → ¬ IsUndecided known lit) where
    open-true : (clause : List Lit) → All (IsWithin vars) clause → IsOpen known clause → clause_value set clause ≡ true
    open-true clause within o =
        ⊎_elim
        (λ (lit, stands, holds). contains-any clause lit stands (lit-true lit (All-contains (IsWithin vars) clause lit within stands) holds))
        (λ (lit, other, stands, more, apart, undecided, rest). absurd (decided lit (All-contains (IsWithin vars) clause lit within stands) undecided))
        o

    pub satisfied : (clauses : List (List Lit)) (steps : List Step) → All (All (IsWithin vars)) clauses → All (IsOpen known) (held_with clauses steps) → Satisfies set clauses
    satisfied clauses steps within o =
        list_all-from_AllPass (clause_value set) clauses
        (λ k d l. open-true (slice_index_or clauses k d) (within k d l)
        (all-left (IsOpen known) clauses (map (λ step. step.clause) steps) o k d l))

-- What the calls of a round do.

pub decided-further : (old new : State) (lit : Lit) → length old.trail ≤ old.vars
    → new ≡ record old { trail = old.trail ++ record { lit = lit; decision = decisions_of old.trail + 1; reason = None } ∷ []; phase = Fresh }
    → ComesFurther old new
decided-further old new lit few e =
    let entry : Entry = record { lit = lit; decision = decisions_of old.trail + 1; reason = None } in
    record {
      vars_same = ap (λ s. s.vars) e;
      clauses_same = ap (λ s. s.clauses) e;
      phase_is = ap (λ s. s.phase) e;
      further = subst (λ t. weight old.vars old.trail < weight old.vars t) (sym (ap (λ s. s.trail) e)) (weight-push old.vars old.trail entry);
      short = weight-short old.vars old.trail few;
    }

module _ (old undone new : State) (learned : Learned) (l : IsLearnedFrom old learned) (decided : 0 < decisions_of old.trail)
    (trail : IsTrail old.vars (held_in old) old.trail)
    (undo : undone ≡ record old { trail = under learned.back old.trail; gone = length (under learned.back old.trail); phase = Fresh }) where
  a : IsAssertion old.trail learned.step.clause learned.back
  a = l.asserts decided

  pub learned-asserting : (lit : Lit) × IsAsserting undone.trail learned.step.clause lit
  learned-asserting =
      subst (λ t. (lit : Lit) × IsAsserting t learned.step.clause lit) (sym (ap (λ s. s.trail) undo))
      (asserting old.vars (held_in old) old.trail trail learned.step.clause learned.back a)

  pub learned-further : length old.trail ≤ old.vars → Learns undone learned.step new → ComesFurther old new
  learned-further few learns =
      let entry : Entry = record { lit = learns.lit; decision = decisions_of undone.trail; reason = Some (length (held_in undone)) } in
      let now : undone.trail ≡ under learned.back old.trail = ap (λ s. s.trail) undo in
      let further = weight-learned old.vars (held_in old) old.trail trail learned.step.clause learned.back a entry (ap decisions_of now) in
      record {
        vars_same = learns.vars_same ∙ ap (λ s. s.vars) undo;
        clauses_same = learns.clauses_same ∙ ap (λ s. s.clauses) undo;
        phase_is = learns.phase_is;
        further = subst (λ t. weight old.vars old.trail < weight old.vars t) (sym (learns.trail_is ∙ ap (λ t. t ++ entry ∷ []) now)) further;
        short = weight-short old.vars old.trail few;
      }

pub refutation : (clauses : List (List Lit)) (steps all : List Step) (last : Step) → AreGood clauses steps → Follows (held_with clauses steps) last → last.clause ≡ []
    → all ≡ steps ++ last ∷ [] → IsRefutation clauses all
refutation clauses steps all last good follows empty e =
    record { good = subst (AreGood clauses) (sym e) (good-push clauses steps last good follows); ends = (steps, last, e, empty) }

pub within-push : (vars : ℕ) (steps all : List Step) (last : Step) → AreWithin vars steps → last.clause ≡ [] → all ≡ steps ++ last ∷ [] → AreWithin vars all
within-push vars steps all last within empty e =
    subst (AreWithin vars) (sym e)
    (All-push (λ step. All (IsWithin vars) step.clause) steps last within (subst (All (IsWithin vars)) (sym empty) (All-nil (IsWithin vars))))

-- Values of the variables, one more each time.

pub truths-push : (known : List Lit) (values all : List Bool) (value : Bool) (count : ℕ) → all ≡ values ++ value ∷ []
    → (length values ≡ count) × ((variable : ℕ) → variable < count → IsTruthOf known (record { 0 = 2 * variable }) (slice_index_or values variable false))
    → IsTruthOf known (record { 0 = 2 * count }) value
    → (length all ≡ count + 1) × ((variable : ℕ) → variable < count + 1 → IsTruthOf known (record { 0 = 2 * variable }) (slice_index_or all variable false))
truths-push known values all value count e (each, truths) truth = (
  omega (arith, ap length e, length-append values (value ∷ []), each),
  λ variable below.
      subst (λ vs. IsTruthOf known (record { 0 = 2 * variable }) (slice_index_or vs variable false)) (sym e)
      (⊎_elim
      (λ lt. subst (IsTruthOf known (record { 0 = 2 * variable })) (sym (get_or_append_left values (value ∷ []) false variable (omega (arith, lt, each)))) (truths variable lt))
      (λ ge.
      let same : count ≡ variable = omega (arith, ge, below) in
      let last : slice_index_or (values ++ value ∷ []) variable false ≡ value =
      ap (λ n. slice_index_or (values ++ value ∷ []) n false) (omega (arith, same, each)) ∙ get_or_from_slice_get (values ++ value ∷ []) (length values) value false (seam-place values value []) in
      subst (IsTruthOf known (record { 0 = 2 * variable })) (sym last) (subst (λ n. IsTruthOf known (record { 0 = 2 * n }) value) same truth))
      (cases_lt variable count)),
)

-- One literal more that isn't undecided.

has-value : (known : List Lit) (lit : Lit) (b : Bool) → IsValueOf known lit (Some b) → ¬ IsUndecided known lit
has-value known lit true v undecided = undecided.0 (v.when_true.0 refl)
has-value known lit false v undecided = undecided.1 (v.when_false.0 refl)

pub none-undecided : (known : List Lit) (variable : ℕ) (value : Option Bool) → ((lit : Lit) → lit.0 < 2 * variable → ¬ IsUndecided known lit)
    → IsValueOf known (record { 0 = 2 * variable }) value → is_some value ≡ true
    → (lit : Lit) → lit.0 < 2 * (variable + 1) → ¬ IsUndecided known lit
none-undecided known variable None before v so lit below undecided = absurd (cc)
none-undecided known variable (Some b) before v so lit below undecided =
    ⊎_elim
    (λ lt. before lit lt undecided)
    (λ ge.
    let even : Lit = record { 0 = 2 * variable } in
    let now : IsUndecided known even =
    ⊎_elim (λ same. subst (IsUndecided known) same undecided)
    (λ other. subst (IsUndecided known) (negation-negation even) (IsUndecided-negation known (negation_of even) (subst (IsUndecided known) other undecided)))
    (same-variable lit even (omega (arith, ge, below))) in
    has-value known even b v now)
    (cases_lt lit.0 (2 * variable))
