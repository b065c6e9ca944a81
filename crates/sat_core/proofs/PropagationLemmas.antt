-- What propagation does to a search keeps what always holds of it.
use Rattle.std.proofs.Common.{◌≡◌, ◌≢◌, ℕ, ◌+◌, ◌<◌, ◌≤◌, Bool, true, List, [], ◌∷◌, ◌++◌, length, get_or, set, map, Option, Some, None, Contains, All, refl, sym, ap, subst, ◌∙◌, ◌⊎◌, inl, inr, ⊎_elim, arith, length-append, length-set}
use Rattle.std.specs.Prelude.{slice_get}
use Rattle.std.proofs.lemmas.Bool.{cases_eq, cases_lt}
use Rattle.std.proofs.lemmas.List.{get_or-set_same, get_or-set_other}
use Rattle.std.proofs.lemmas.List.Elements.{All-append, All-contains, All-from_get_or, All-get_or, All-map}
use Rattle.std.proofs.lemmas.Option.{slice_get_within}
use Rattle.sat_cnf.specs.declared.lit.Lit.{Lit}
use Rattle.sat_cnf.specs.Clauses.{IsWithin}
use Rattle.sat_cnf.specs.Lits.{negation_of}
use Rattle.sat_proof.specs.Propagation.{IsFalse, IsUndecided, IsUnit}
use Rattle.sat_proof.specs.Refutations.{hinted}
use Rattle.sat_watch.specs.Watching.{StandsAt, list_at}
use Rattle.sat_core.specs.declared.entry.Entry.{Entry}
use Rattle.sat_core.specs.declared.pair.Pair.{Pair}
use Rattle.sat_core.specs.declared.phase.Phase.{Phase}
use Rattle.sat_core.specs.declared.phase.Phase.TheVariants.{Fresh}
use Rattle.sat_core.specs.Trails.{decisions_of, lits_of}
use Rattle.sat_core.specs.Watching.{IsBacked, IsBackedPair, IsPairOf, times_in}
use Rattle.sat_core.specs.Searching.{AreWatched, IsInPhase, IsOpen, IsSearch, IsSettled, State, held_in}
use Rattle.sat_core.specs.Walking.{ComesTo, Grows, IsOther, IsPassed, IsPassedAt, IsReplacement, clause_of}
use Rattle.sat_core.proofs.LiteralLemmas.{negation-negation, negation-within, same-lit}
use Rattle.sat_core.proofs.PlaceLemmas.{Contains-at, place-of, push-place}
use Rattle.sat_core.proofs.TrailLemmas.{IsTrail-push, IsTrueUnder-append, decision-le, entry-of, in-order, lit-of, never-both}
use Rattle.sat_core.proofs.EntryLemmas.{decisions-same, is-true, negation-same, slice_get-left}
use Rattle.sat_core.proofs.WatchLemmas.{moved, moved-lists, same, some-within}

-- what a clause makes true

abbrev pub implied : List Entry → Lit → ℕ → Entry
implied trail lit number = record { lit = lit; decision = decisions_of trail; reason = Some number }

backed-more : (entries more : List Entry) (gone : ℕ) (lit other : Lit) → gone ≤ length entries → IsBacked entries gone lit other → IsBacked (entries ++ more) gone lit other
backed-more entries more gone lit other le b place entry h at e =
    let t = b place entry h (sym (slice_get-left entries more place (omega arith)) ∙ at) e in
    (t.0, IsTrueUnder-append entries more other t.0 t.1, t.2)

backed-pair-more : (entries more : List Entry) (gone : ℕ) (pair : Option Pair) → gone ≤ length entries → IsBackedPair entries gone pair → IsBackedPair (entries ++ more) gone pair
backed-pair-more entries more gone None le b = tt
backed-pair-more entries more gone (Some pair) le b =
    (backed-more entries more gone pair.first pair.second le b.0, backed-more entries more gone pair.second pair.first le b.1)

module _ (s : State) (is : IsSearch s) (fresh : s.phase ≡ Fresh) (lit : Lit) (number : ℕ) (within : IsWithin s.vars lit) (below : number < length (held_in s))
    (unit : IsUnit (lits_of s.trail) (hinted (held_in s) number) lit) where
  pub search-put : IsSearch (record s { trail = s.trail ++ implied s.trail lit number ∷ [] })
  search-put = record {
    few_vars = is.few_vars;
    few_clauses = is.few_clauses;
    few = is.few;
    clauses_within = is.clauses_within;
    steps_within = is.steps_within;
    good = is.good;
    trail = IsTrail-push s.vars (held_in s) s.trail (implied s.trail lit number) is.trail (record { within = within; undecided = unit.undecided; reason = (refl, below, unit) });
    gone = omega (arith, is.gone, length-append s.trail (implied s.trail lit number ∷ []));
    ahead = λ place entry h at.
        ⊎_elim
        (λ old. is.ahead place entry h old ∙ sym (decisions-same s.trail (implied s.trail lit number) refl))
        (λ last. ap (λ e. e.decision) (sym last.1) ∙ sym (decisions-same s.trail (implied s.trail lit number) refl))
        (push-place s.trail (implied s.trail lit number) entry place at);
    watched = record {
      heads = is.watched.heads;
      each = is.watched.each;
      two = is.watched.two;
      lists = is.watched.lists;
      backed = λ n h. backed-pair-more s.trail (implied s.trail lit number ∷ []) s.gone (get_or s.pairs n None) is.gone (is.watched.backed n h);
    };
    waiting = λ e. decisions-same s.trail (implied s.trail lit number) refl ∙ is.waiting e;
    settled = λ begun n h none. let t = is.settled begun n h none in (t.0, t.1, IsTrueUnder-append s.trail (implied s.trail lit number ∷ []) t.0 0 t.2);
    phase = subst (IsInPhase (record s { trail = s.trail ++ implied s.trail lit number ∷ [] })) (sym fresh) tt;
  }

  pub grows-put : Grows s (record s { trail = s.trail ++ implied s.trail lit number ∷ [] })
  grows-put = record {
    vars_same = refl;
    clauses_same = refl;
    steps_same = refl;
    more = implied s.trail lit number ∷ [];
    trail_is = refl;
    propagated = ((number, refl, below, unit), refl, tt);
  }

  -- the same, where the trail is given by an equation
  pub search-put-at : (trail : List Entry) → trail ≡ s.trail ++ implied s.trail lit number ∷ [] → IsSearch (record s { trail = trail })
  search-put-at trail e = subst (λ t. IsSearch (record s { trail = t })) (sym e) search-put

  pub grows-put-at : (trail : List Entry) → trail ≡ s.trail ++ implied s.trail lit number ∷ [] → Grows s (record s { trail = trail })
  grows-put-at trail e = subst (λ t. Grows s (record s { trail = t })) (sym e) grows-put

-- a watcher that moves to another literal of its clause

other-times : (pair : Pair) (lit other : Lit) → IsOther pair lit other → (l : Lit) → times_in (Some pair) l ≡ same lit.0 l.0 + same other.0 l.0
other-times pair lit other o l =
    ⊎_elim (λ p. rw (sym p.0, p.1) refl) (λ p. rw (sym p.0, p.1) (omega arith)) o

-- the literal that propagation comes to is false, under the last decision
pub comes-false : (s : State) (lit : Lit) → IsSearch s → ComesTo s lit
    → (entry : Entry) × Contains s.trail entry × (entry.lit ≡ negation_of lit) × (entry.decision ≡ decisions_of s.trail)
comes-false s lit is comes =
    (comes.0, Contains-at s.trail s.gone comes.0 comes.1, comes.2, is.ahead s.gone comes.0 (omega arith) comes.1)

pub comes-known : (s : State) (lit : Lit) → IsSearch s → ComesTo s lit → IsFalse (lits_of s.trail) lit
comes-known s lit is comes =
    subst (Contains (lits_of s.trail)) comes.2 (lit-of s.trail comes.0 (Contains-at s.trail s.gone comes.0 comes.1))

pub comes-within : (s : State) (lit : Lit) → IsSearch s → ComesTo s lit → IsWithin s.vars lit
comes-within s lit is comes =
    let w = negation-within s.vars (comes.0).lit (is.trail s.gone comes.0 comes.1).within in
    subst (IsWithin s.vars) (ap negation_of comes.2 ∙ negation-negation lit) w

pub other-two : (clause : List Lit) (pair : Pair) (lit other : Lit) → IsOther pair lit other → IsPairOf clause (Some pair)
    → Contains clause lit × Contains clause other × (lit ≢ other)
other-two clause pair lit other o p =
    ⊎_elim
    (λ e. (subst (Contains clause) e.0 p.0, subst (Contains clause) (sym e.1) p.1, λ same. p.2 (e.0 ∙ same ∙ e.1)))
    (λ e. (subst (Contains clause) e.0 p.1, subst (Contains clause) (sym e.1) p.0, λ same. p.2 (sym e.1 ∙ sym same ∙ sym e.0)))
    o

other-backed : (entries : List Entry) (gone : ℕ) (pair : Pair) (lit other : Lit) → IsOther pair lit other → IsBackedPair entries gone (Some pair) → IsBacked entries gone other lit
other-backed entries gone pair lit other o b =
    ⊎_elim
    (λ e. subst (λ x. IsBacked entries gone x lit) (sym e.1) (subst (IsBacked entries gone pair.second) e.0 b.1))
    (λ e. subst (λ x. IsBacked entries gone x lit) (sym e.1) (subst (IsBacked entries gone pair.first) e.0 b.0))
    o

module _ (s : State) (is : IsSearch s) (fresh : s.phase ≡ Fresh) (lit other to : Lit) (comes : ComesTo s lit) (watcher : ℕ) (passed rest : List ℕ) (pair : Pair)
    (at : StandsAt s.watches.lists lit.0 passed watcher rest) (pair-is : get_or s.pairs (clause_of s.watches watcher) None ≡ Some pair) (o : IsOther pair lit other)
    (found : IsReplacement (lits_of s.trail) (hinted (held_in s) (clause_of s.watches watcher)) lit other (Some to)) (to-within : IsWithin s.vars to) where
  abbrev new-pairs : List (Option Pair)
  new-pairs = set s.pairs (clause_of s.watches watcher) (Some (record { first = other; second = to }))

  abbrev new-lists : List (List ℕ)
  new-lists = moved s.watches.lists lit.0 (passed ++ rest) watcher to.0

  new-pair : (number : ℕ) → number ≡ clause_of s.watches watcher → get_or new-pairs number None ≡ Some (record { first = other; second = to })
  new-pair number e =
      ap (λ n. get_or new-pairs n None) e
      ∙ get_or-set_same s.pairs (clause_of s.watches watcher) (Some (record { first = other; second = to })) None (some-within s.pairs (clause_of s.watches watcher) pair pair-is)

  old-pair : (number : ℕ) → number ≢ clause_of s.watches watcher → get_or new-pairs number None ≡ get_or s.pairs number None
  old-pair number ne = get_or-set_other s.pairs (clause_of s.watches watcher) number (Some (record { first = other; second = to })) None ne

  backed-there : IsBackedPair s.trail s.gone (Some (record { first = other; second = to }))
  backed-there =
      let k = clause_of s.watches watcher in
      let b : IsBackedPair s.trail s.gone (Some pair) =
      subst (IsBackedPair s.trail s.gone) pair-is (is.watched.backed k (omega (arith, some-within s.pairs k pair pair-is, is.watched.each))) in (
        λ place entry h here e.
            let t = (other-backed s.trail s.gone pair lit other o b place entry h here e).1 in
            absurd (never-both s.vars s.trail (in-order s.vars (held_in s) s.trail is.trail) lit (subst (Contains (lits_of s.trail)) t.2 (lit-of s.trail t.0 t.1)) (comes-known s lit is comes)),
        λ place entry h here e. absurd ((found.1).2 (subst (Contains (lits_of s.trail)) e (lit-of s.trail entry (Contains-at s.trail place entry here)))),
      )

  pub watched-move : AreWatched (record s { watches = record s.watches { lists = new-lists }; pairs = new-pairs })
  watched-move =
      let k = clause_of s.watches watcher in
      let below : k < length (held_in s) = omega (arith, some-within s.pairs k pair pair-is, is.watched.each) in
      let two = other-two (hinted (held_in s) k) pair lit other o (subst (IsPairOf (hinted (held_in s) k)) pair-is (is.watched.two k below)) in
      let lit-within = comes-within s lit is comes in
      record {
        heads = length-set (set s.watches.lists lit.0 (passed ++ rest)) to.0 (watcher ∷ list_at s.watches.lists to.0) ∙ length-set s.watches.lists lit.0 (passed ++ rest) ∙ is.watched.heads;
        each = length-set s.pairs k (Some (record { first = other; second = to })) ∙ is.watched.each;
        two = λ number h.
            ⊎_elim
            (λ e. subst (IsPairOf (hinted (held_in s) number)) (sym (new-pair number e))
            (subst (λ n. IsPairOf (hinted (held_in s) n) (Some (record { first = other; second = to }))) (sym e) (two.1, found.0, λ e. (found.1).0 (sym e))))
            (λ ne. subst (IsPairOf (hinted (held_in s) number)) (sym (old-pair number ne)) (is.watched.two number h))
            (cases_eq number k);
        lists = λ number l l-within.
            moved-lists s.vars s.watches.clauses s.watches.lists s.pairs pair lit other to watcher passed rest is.watched.lists pair-is (other-times pair lit other o) at
            (omega (arith, is.watched.heads, lit-within)) (omega (arith, is.watched.heads, to-within)) (λ e. (found.1).1 (same-lit to lit e)) number l l-within;
        backed = λ number h.
            ⊎_elim
            (λ e. subst (IsBackedPair s.trail s.gone) (sym (new-pair number e)) backed-there)
            (λ ne. subst (IsBackedPair s.trail s.gone) (sym (old-pair number ne)) (is.watched.backed number h))
            (cases_eq number k);
      }

  pub search-move : IsSearch (record s { watches = record s.watches { lists = new-lists }; pairs = new-pairs })
  search-move = record {
    few_vars = is.few_vars;
    few_clauses = is.few_clauses;
    few = is.few;
    clauses_within = is.clauses_within;
    steps_within = is.steps_within;
    good = is.good;
    trail = is.trail;
    gone = is.gone;
    ahead = is.ahead;
    watched = watched-move;
    waiting = is.waiting;
    settled = λ begun number h none.
        ⊎_elim
        (λ e. let some = new-pair number e in absurd (cc))
        (λ ne. is.settled begun number h (sym (old-pair number ne) ∙ none))
        (cases_eq number (clause_of s.watches watcher));
    phase = subst (IsInPhase (record s { watches = record s.watches { lists = new-lists }; pairs = new-pairs })) (sym fresh) tt;
  }

  -- the other literals of all pairs that were passed are true as before
  pub passed-move : ¬ Contains (lits_of s.trail) other → (number : ℕ) → IsPassedAt s lit number → IsPassed (lits_of s.trail) lit (get_or new-pairs number None)
  passed-move untrue number p =
      ⊎_elim
      (λ e.
      let here : IsPassed (lits_of s.trail) lit (Some pair) = subst (IsPassed (lits_of s.trail) lit) (ap (λ n. get_or s.pairs n None) e ∙ pair-is) p in
      absurd (untrue (⊎_elim (λ q. subst (Contains (lits_of s.trail)) (sym q.1) (here.0 q.0)) (λ q. subst (Contains (lits_of s.trail)) (sym q.1) (here.1 q.0)) o)))
      (λ ne. subst (IsPassed (lits_of s.trail) lit) (sym (old-pair number ne)) p)
      (cases_eq number (clause_of s.watches watcher))

-- a literal whose watchers were all passed

backed-next : (s : State) (lit : Lit) (is : IsSearch s) (comes : ComesTo s lit) (a b : Lit) → IsBacked s.trail s.gone a b → (a ≡ lit → Contains (lits_of s.trail) b) → IsBacked s.trail (s.gone + 1) a b
backed-next s lit is comes a b back known place entry h at e =
    ⊎_elim
    (λ old. back place entry old at e)
    (λ last.
    let here : Some entry ≡ Some comes.0 = sym at ∙ ap (slice_get s.trail) (omega (arith, last, h)) ∙ comes.1 in
    let one : entry ≡ comes.0 = cc in
    let lit-is : a ≡ lit = negation-same a lit (sym e ∙ ap (λ x. x.lit) one ∙ comes.2) in
    let t = entry-of s.trail b (known lit-is) in
    ((t.0).decision, (t.0, t.1, t.2, refl), omega (arith, decision-le s.trail t.0 t.1, is.ahead place entry (omega (arith, last)) at)))
    (cases_lt place s.gone)

backed-pair-next : (s : State) (lit : Lit) (is : IsSearch s) (comes : ComesTo s lit) (pair : Option Pair) → IsBackedPair s.trail s.gone pair → IsPassed (lits_of s.trail) lit pair → IsBackedPair s.trail (s.gone + 1) pair
backed-pair-next s lit is comes None b p = tt
backed-pair-next s lit is comes (Some pair) b p =
    (backed-next s lit is comes pair.first pair.second b.0 p.0, backed-next s lit is comes pair.second pair.first b.1 p.1)

pub search-go : (s : State) (lit : Lit) → IsSearch s → s.phase ≡ Fresh → ComesTo s lit → ((number : ℕ) → IsPassedAt s lit number) → IsSearch (record s { gone = s.gone + 1 })
search-go s lit is fresh comes passed = record {
  few_vars = is.few_vars;
  few_clauses = is.few_clauses;
  few = is.few;
  clauses_within = is.clauses_within;
  steps_within = is.steps_within;
  good = is.good;
  trail = is.trail;
  gone = omega (arith, slice_get_within s.trail s.gone comes.0 comes.1);
  ahead = λ place entry h at. is.ahead place entry (omega (arith, h)) at;
  watched = record {
    heads = is.watched.heads;
    each = is.watched.each;
    two = is.watched.two;
    lists = is.watched.lists;
    backed = λ number h. backed-pair-next s lit is comes (get_or s.pairs number None) (is.watched.backed number h) (passed number);
  };
  waiting = is.waiting;
  settled = is.settled;
  phase = subst (IsInPhase (record s { gone = s.gone + 1 })) (sym fresh) tt;
}

-- the phases

watched-same : (s : State) (begun : Bool) (phase : Phase) → AreWatched s → AreWatched (record s { begun = begun; phase = phase })
watched-same s begun phase w = record { heads = w.heads; each = w.each; two = w.two; lists = w.lists; backed = w.backed }

pub search-phase : (s : State) (phase : Phase) → IsSearch s → IsInPhase (record s { phase = phase }) phase → IsSearch (record s { phase = phase })
search-phase s phase is there = record {
  few_vars = is.few_vars;
  few_clauses = is.few_clauses;
  few = is.few;
  clauses_within = is.clauses_within;
  steps_within = is.steps_within;
  good = is.good;
  trail = is.trail;
  gone = is.gone;
  ahead = is.ahead;
  watched = watched-same s s.begun phase is.watched;
  waiting = is.waiting;
  settled = is.settled;
  phase = there;
}

-- where propagation has gone past the whole trail

open-by : (s : State) (lit other : Lit) (clause : List Lit) → s.gone ≡ length s.trail → IsBacked s.trail s.gone lit other → Contains clause lit → Contains clause other
    → IsOpen (lits_of s.trail) clause ⊎ IsUndecided (lits_of s.trail) lit
open-by s lit other clause all back has has-other =
    ⊎_elim
    (λ yes. inl (inl (lit, has, yes)))
    (λ no.
    ⊎_elim
    (λ false'.
    let e = entry-of s.trail (negation_of lit) false' in
    let at = place-of s.trail e.0 e.1 in
    let t = (back at.0 e.0 (omega (arith, slice_get_within s.trail at.0 e.0 at.1, all)) at.1 e.2).1 in
    inl (inl (other, has-other, subst (Contains (lits_of s.trail)) t.2 (lit-of s.trail t.0 t.1))))
    (λ unknown. inr (no, unknown))
    (is-true (lits_of s.trail) (negation_of lit)))
    (is-true (lits_of s.trail) lit)

open-pair : (s : State) (clause : List Lit) (pair : Option Pair) → s.gone ≡ length s.trail → IsPairOf clause pair → IsBackedPair s.trail s.gone pair
    → (pair ≡ None → IsSettled s.trail clause) → IsOpen (lits_of s.trail) clause
open-pair s clause None all two back settled =
    let t = settled refl in
    inl (t.0, t.1, subst (Contains (lits_of s.trail)) (t.2).2 (lit-of s.trail (t.2).0 (t.2).1))
open-pair s clause (Some pair) all two back settled =
    ⊎_elim (λ open'. open')
    (λ u. ⊎_elim (λ open'. open') (λ v. inr (pair.first, pair.second, two.0, two.1, two.2, u, v)) (open-by s pair.second pair.first clause all back.1 two.1 two.0))
    (open-by s pair.first pair.second clause all back.0 two.0 two.1)

pub all-open : (s : State) → IsSearch s → s.begun ≡ true → s.gone ≡ length s.trail → All (IsOpen (lits_of s.trail)) (held_in s)
all-open s is begun all =
    All-from_get_or (IsOpen (lits_of s.trail)) (held_in s) []
    (λ number h. open-pair s (hinted (held_in s) number) (get_or s.pairs number None) all (is.watched.two number h) (is.watched.backed number h) (is.settled begun number h))

-- the literals of a clause are within
pub all-within : (s : State) (number : ℕ) → IsSearch s → number < length (held_in s) → All (IsWithin s.vars) (hinted (held_in s) number)
all-within s number is below =
    let all : All (All (IsWithin s.vars)) (held_in s) =
    All-append (All (IsWithin s.vars)) s.clauses (map (λ step. step.clause) s.steps) is.clauses_within (All-map (All (IsWithin s.vars)) (λ step. step.clause) s.steps is.steps_within) in
    All-get_or (All (IsWithin s.vars)) (held_in s) number [] below all

pub clause-within : (s : State) (number : ℕ) (lit : Lit) → IsSearch s → number < length (held_in s) → Contains (hinted (held_in s) number) lit → IsWithin s.vars lit
clause-within s number lit is below has = All-contains (IsWithin s.vars) (hinted (held_in s) number) lit (all-within s number is below) has
