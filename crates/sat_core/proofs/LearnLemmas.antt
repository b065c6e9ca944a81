-- What a clause asserts, and what a search keeps as it learns a step.
use Rattle.std.proofs.Common.{◌≡◌, ℕ, ◌+◌, ◌*◌, ◌<◌, ◌≤◌, ◌^◌, ◌==◌, if◌then◌else◌, true, List, [], ◌∷◌, ◌++◌, length, map, take, slice_get, slice_index_or, Option, Some, None, IfSome, Contains, All, refl, sym, ap, subst, ◌∙◌, ◌⊎◌, ⊎_elim, arith}
use Rattle.std.proofs.lemmas.Bool.{cases_lt}
use Rattle.std.proofs.lemmas.List.{append_assoc, get_or_append_left, get_or_push, length-append, length-map, length_push, map-append, take_all, take_more, take-append-le}
use Rattle.std.proofs.lemmas.List.Elements.{All-contains, All-more, All-push, Contains-get_or, Contains-push, Contains-push_cases}
use Rattle.std.proofs.lemmas.Option.{none-some}
use Rattle.sat_cnf.specs.declared.lit.Lit.{Lit}
use Rattle.sat_cnf.specs.Clauses.{IsWithin}
use Rattle.sat_cnf.specs.Lits.{negation_of}
use Rattle.sat_proof.specs.Propagation.{IsFalse, IsUnit}
use Rattle.sat_proof.specs.Refutations.{AreGood, Follows, held_with, hinted}
use Rattle.sat_proof.specs.declared.step.Step.{Step}
use Rattle.sat_watch.specs.Watching.{Watched}
use Rattle.sat_core.specs.declared.entry.Entry.{Entry}
use Rattle.sat_core.specs.declared.pair.Pair.{Pair}
use Rattle.sat_core.specs.declared.phase.Phase.{Phase}
use Rattle.sat_core.specs.declared.phase.Phase.TheVariants.{Fresh, Quiet, Struck}
use Rattle.sat_core.specs.Searching.{IsAsserting, IsInPhase, IsLearnedPair, IsSearch, IsSettled, State, held_in}
use Rattle.sat_core.specs.Trails.{IsFalseUnder, IsTrail, IsTrueUnder, IsValueOf, decisions_of, lits_of}
use Rattle.sat_core.specs.Watching.{IsBackedPair, IsPairOf, times_in, watches_at}
use Rattle.sat_core.proofs.KnownLemmas.{undecided-from_none}
use Rattle.sat_core.proofs.SearchLemmas.{AreKept, IsBackedPair-push, kept-more, old-place}
use Rattle.sat_core.proofs.TrailLemmas.{IsTrail-held, IsTrail-push, IsTrueUnder-append, decisions_of-push, in-order, lit-of, one-decision, true-from_under}
use Rattle.sat_core.proofs.PlaceLemmas.{Contains-at, left-place, push-place, seam-place}

-- how far the literals of a clause were looked at: the undecided one is kept, and one that is false under a decision
pub record IsRead (entries : List Entry) (clause : List Lit) (decision index : ℕ) (lit : Lit) (other : Option Lit) : Type 0 where
  pub found : (unit : Lit) → IsUnit (lits_of entries) clause unit → Contains (take index clause) unit → lit ≡ unit
  pub some : IfSome other (λ second. Contains clause second × IsFalseUnder entries second decision)
  pub none : other ≡ None → All (λ literal. ¬ IsFalseUnder entries literal decision) (take index clause)

pub read-none : (entries : List Entry) (clause : List Lit) (decision : ℕ) (lit : Lit) → IsRead entries clause decision 0 lit None
read-none entries clause decision lit = record {
  found = λ unit is stands. absurd (omega (arith, stands.1));
  some = tt;
  none = λ _ k d below. absurd (omega (arith, below));
}

-- one literal more
module _ (entries : List Entry) (clause : List Lit) (decision index : ℕ) (lit : Lit) (other : Option Lit) (default : Lit)
    (below : index < length clause)
    (read : IsRead entries clause decision index lit other) where
  abbrev literal : Lit
  literal = slice_index_or clause index default

  stands : Contains clause literal
  stands = Contains-get_or clause index default below

  more-none : ¬ IsFalseUnder entries literal decision → other ≡ None → All (λ l. ¬ IsFalseUnder entries l decision) (take (index + 1) clause)
  more-none not_false none = All-more (λ l. ¬ IsFalseUnder entries l decision) clause index default below (read.none none) not_false

  found-false : IsFalse (lits_of entries) literal → (unit : Lit) → IsUnit (lits_of entries) clause unit → Contains (take (index + 1) clause) unit → lit ≡ unit
  found-false is_false unit is there =
      ⊎_elim (λ old. read.found unit is old)
      (λ here. absurd (is.undecided.1 (subst (IsFalse (lits_of entries)) here is_false)))
      (Contains-push_cases (take index clause) literal unit (subst (λ l. Contains l unit) (take_more clause index default below) there))

  -- it is undecided
  pub read-undecided : IsValueOf (lits_of entries) literal None → IsRead entries clause decision (index + 1) literal other
  read-undecided value =
      let undecided = undecided-from_none (lits_of entries) literal value in
      record {
        found = λ unit is there. ⊎_elim (λ e. e) (λ f. absurd (undecided.1 f)) (All-contains (λ l. (l ≡ unit) ⊎ IsFalse (lits_of entries) l) clause literal is.alone stands);
        some = read.some;
        none = more-none (λ f. undecided.1 (true-from_under entries (negation_of literal) decision f));
      }

  -- it is false under the decision
  pub read-false : IsFalseUnder entries literal decision → IsRead entries clause decision (index + 1) lit (Some literal)
  read-false is_false = record {
    found = found-false (true-from_under entries (negation_of literal) decision is_false);
    some = (stands, is_false);
    none = λ e. absurd (cc);
  }

  -- it is false under another
  pub read-other : (under : ℕ) → IsFalseUnder entries literal under → ¬ IsFalseUnder entries literal decision → IsRead entries clause decision (index + 1) lit other
  read-other under is_false not_false = record {
    found = found-false (true-from_under entries (negation_of literal) under is_false);
    some = read.some;
    none = more-none not_false;
  }

-- all literals were looked at
module _ (entries : List Entry) (clause : List Lit) (index : ℕ) (lit : Lit) (all : length clause ≤ index) where
  pub read-lit : (decision : ℕ) (other : Option Lit) → IsRead entries clause decision index lit other → (unit : Lit) × IsAsserting entries clause unit → IsAsserting entries clause lit
  read-lit decision other read (unit, asserts) =
      subst (IsAsserting entries clause)
      (sym (read.found unit asserts.unit (subst (λ l. Contains l unit) (sym (take_all index clause all)) asserts.unit.stands))) asserts

  pub read-pair : (second : Lit) → IsAsserting entries clause lit → Contains clause second → IsFalseUnder entries second (decisions_of entries)
      → IsPairOf clause (Some (record { first = lit; second = second }))
  read-pair second asserts there is_false = (
    asserts.unit.stands,
    there,
    λ same. asserts.unit.undecided.1 (subst (IsFalse (lits_of entries)) (sym same) (true-from_under entries (negation_of second) (decisions_of entries) is_false)),
  )

  pub read-alone : IsAsserting entries clause lit → IsRead entries clause (decisions_of entries) index lit None → All (λ l. l ≡ lit) clause
  read-alone asserts read =
      let none : All (λ l. ¬ IsFalseUnder entries l (decisions_of entries)) clause =
      subst (All (λ l. ¬ IsFalseUnder entries l (decisions_of entries))) (take_all index clause all) (read.none refl) in
      ⊎_elim (λ p. p.0)
      (λ (other, there, differs, is_false). absurd (All-contains (λ l. ¬ IsFalseUnder entries l (decisions_of entries)) clause other none there is_false))
      asserts.last

pub alone-pair : (clause : List Lit) (lit : Lit) → All (λ l. l ≡ lit) clause → IsPairOf clause None
alone-pair clause lit all a b in_a in_b = All-contains (λ l. l ≡ lit) clause a all in_a ∙ sym (All-contains (λ l. l ≡ lit) clause b all in_b)

-- A step is learned.

pub held-push : (clauses : List (List Lit)) (steps : List Step) (step : Step) → held_with clauses (steps ++ step ∷ []) ≡ held_with clauses steps ++ step.clause ∷ []
held-push clauses steps step =
    ap (λ more. clauses ++ more) (map-append (λ (s : Step). s.clause) steps (step ∷ []))
    ∙ sym (append_assoc clauses (map (λ (s : Step). s.clause) steps) (step.clause ∷ []))

pub length-held : (clauses : List (List Lit)) (steps : List Step) → length (held_with clauses steps) ≡ length clauses + length steps
length-held clauses steps = length-append clauses (map (λ (s : Step). s.clause) steps) ∙ ap (λ n. length clauses + n) (length-map steps (λ (s : Step). s.clause))

good-push : (clauses : List (List Lit)) (steps : List Step) (step : Step) → AreGood clauses steps → Follows (held_with clauses steps) step → AreGood clauses (steps ++ step ∷ [])
good-push clauses steps step good follows place below =
    ⊎_elim
    (λ lt. let (old, at, holds) = good place lt in (
      old,
      left-place steps (step ∷ []) place old at,
      subst (λ before. Follows (held_with clauses before) old) (sym (take-append-le place steps (step ∷ []) (omega (arith, lt)))) holds,
    ))
    (λ ge. let last : place ≡ length steps = omega (arith, ge, below, length_push steps step) in (
      step,
      ap (slice_get (steps ++ step ∷ [])) last ∙ seam-place steps step [],
      subst (λ before. Follows (held_with clauses before) step)
          (sym (ap (λ n. take n (steps ++ step ∷ [])) last ∙ take-append-le (length steps) steps (step ∷ []) (omega arith) ∙ take_all (length steps) steps (omega arith))) follows,
    ))
    (cases_lt place (length steps))

in-phase : (s : State) (watches : Watched) (phase : Phase) → IsInPhase s phase → IsInPhase (record s { watches = watches }) phase
in-phase s watches Fresh p = p
in-phase s watches Quiet p = p
in-phase s watches (Struck number) p = p

-- nothing has changed but what is watched behind the lists of the literals
pub unlearned : (s : State) (steps : List Step) (watches : Watched) (pairs : List (Option Pair)) → IsSearch s → steps ≡ s.steps → pairs ≡ s.pairs
    → length watches.lists ≡ length s.watches.lists → ((lit : Lit) (other : ℕ) → lit.0 < 2 * s.vars → watches_at watches lit other ≡ watches_at s.watches lit other)
    → IsSearch (record s { steps = steps; watches = watches; pairs = pairs })
unlearned s steps watches pairs search same_steps same_pairs heads counts =
    rw (same_steps, same_pairs) (
    let now : State = record s { watches = watches } in
    let is : IsSearch now = record {
      few_vars = search.few_vars;
      few_clauses = search.few_clauses;
      few = search.few;
      clauses_within = search.clauses_within;
      steps_within = search.steps_within;
      good = search.good;
      trail = search.trail;
      gone = search.gone;
      ahead = search.ahead;
      watched = record {
        heads = heads ∙ search.watched.heads;
        each = search.watched.each;
        two = search.watched.two;
        lists = λ number lit within. counts lit number within ∙ search.watched.lists number lit within;
        backed = search.watched.backed;
      };
      waiting = search.waiting;
      settled = search.settled;
      phase = in-phase s watches s.phase search.phase;
    } in is)

module _ (s : State) (step : Step) (lit : Lit) (number : ℕ) (pair : Option Pair) (watches : Watched)
    (search : IsSearch s)
    (good : Follows (held_in s) step)
    (within : All (IsWithin s.vars) step.clause)
    (asserts : IsAsserting s.trail step.clause lit)
    (of : IsPairOf step.clause pair)
    (learned : IsLearnedPair s.trail step.clause lit pair)
    (number_is : number ≡ length s.clauses + length s.steps)
    (few : number + 1 < 2 ^ 63)
    (heads : length watches.lists ≡ length s.watches.lists)
    (counts : (l : Lit) (other : ℕ) → l.0 < 2 * s.vars → watches_at watches l other ≡ watches_at s.watches l other + (if other == number then times_in pair l else 0)) where
  abbrev entry : Entry
  entry = record { lit = lit; decision = decisions_of s.trail; reason = Some number }

  abbrev now : List Entry
  now = s.trail ++ entry ∷ []

  held-is : held_with s.clauses (s.steps ++ step ∷ []) ≡ held_in s ++ step.clause ∷ []
  held-is = held-push s.clauses s.steps step

  count : length (held_in s) ≡ number
  count = length-held s.clauses s.steps ∙ sym number_is

  last : hinted (held_in s ++ step.clause ∷ []) number ≡ step.clause
  last = get_or_push (held_in s) step.clause [] number count

  pair-last : slice_index_or (s.pairs ++ pair ∷ []) number None ≡ pair
  pair-last = get_or_push s.pairs pair None number (search.watched.each ∙ count)

  same-decisions : decisions_of now ≡ decisions_of s.trail
  same-decisions = omega (arith, decisions_of-push s.trail entry)

  lit-true : IsTrueUnder now lit (decisions_of s.trail)
  lit-true = (entry, Contains-push s.trail entry, refl, refl)

  new-trail : IsTrail s.vars (held_with s.clauses (s.steps ++ step ∷ [])) now
  new-trail =
      rw held-is (
      IsTrail-push s.vars (held_in s ++ step.clause ∷ []) s.trail entry (IsTrail-held s.vars (held_in s) (step.clause ∷ []) s.trail search.trail) (record {
        within = All-contains (IsWithin s.vars) step.clause lit within asserts.unit.stands;
        undecided = asserts.unit.undecided;
        reason = (refl, omega (arith, count, length_push (held_in s) step.clause), subst (λ clause. IsUnit (lits_of s.trail) clause lit) (sym last) asserts.unit);
      })
      )

  kept : AreKept s.vars (held_in s ++ step.clause ∷ []) watches (s.pairs ++ pair ∷ [])
  kept =
      kept-more s.vars (held_in s) s.watches watches s.pairs step.clause pair
      (record { heads = search.watched.heads; each = search.watched.each; two = search.watched.two; lists = search.watched.lists }) of heads (rw count counts)

  -- the place of an entry that was gone past
  gone-at : (place : ℕ) (e : Entry) → place < s.gone → slice_get now place ≡ Some e → slice_get s.trail place ≡ Some e
  gone-at place e below at = old-place s.trail entry e place (omega (arith, below, search.gone)) at

  backed-last : (p : Option Pair) → IsLearnedPair s.trail step.clause lit p → IsBackedPair now s.gone p
  backed-last None l = tt
  backed-last (Some two) l = (
    λ place e below at is. absurd (asserts.unit.undecided.1 (
        subst (Contains (lits_of s.trail)) (is ∙ ap negation_of l.0) (lit-of s.trail e (Contains-at s.trail place e (gone-at place e below at)))
        )),
    λ place e below at is. (
      decisions_of s.trail,
      subst (λ first. IsTrueUnder now first (decisions_of s.trail)) (sym l.0) lit-true,
      omega (
        arith,
        one-decision s.vars s.trail (in-order s.vars (held_in s) s.trail search.trail) (negation_of two.second) e.decision (decisions_of s.trail)
            (e, Contains-at s.trail place e (gone-at place e below at), is, refl) l.1,
      ),
    ),
  )

  -- a number is that of a clause that was held, or of the one that is learned
  which : (P : ℕ → Type 0) → ((n : ℕ) → n < length (held_in s) → P n) → P number → (n : ℕ) → n < length (held_in s ++ step.clause ∷ []) → P n
  which P old new n below =
      ⊎_elim (λ lt. old n lt)
      (λ ge. let same : number ≡ n = omega (arith, ge, below, count, length_push (held_in s) step.clause) in subst P same new)
      (cases_lt n (length (held_in s)))

  old-pair : (n : ℕ) → n < length (held_in s) → slice_index_or (s.pairs ++ pair ∷ []) n None ≡ slice_index_or s.pairs n None
  old-pair n lt = get_or_append_left s.pairs (pair ∷ []) None n (omega (arith, lt, search.watched.each))

  backed : (n : ℕ) → n < length (held_in s ++ step.clause ∷ []) → IsBackedPair now s.gone (slice_index_or (s.pairs ++ pair ∷ []) n None)
  backed =
      which (λ n. IsBackedPair now s.gone (slice_index_or (s.pairs ++ pair ∷ []) n None))
      (λ n lt. subst (IsBackedPair now s.gone) (sym (old-pair n lt))
      (IsBackedPair-push s.trail entry s.gone (slice_index_or s.pairs n None) search.gone (search.watched.backed n lt)))
      (subst (IsBackedPair now s.gone) (sym pair-last) (backed-last pair learned))

  settled-last : (p : Option Pair) → p ≡ None → IsLearnedPair s.trail step.clause lit p → IsSettled now step.clause
  settled-last None is l = (
    lit,
    asserts.unit.stands,
    subst (IsTrueUnder now lit)
        (⊎_elim (λ q. q.1) (λ (other, there, differs, f). absurd (differs (All-contains (λ o. o ≡ lit) step.clause other l there))) asserts.last) lit-true,
  )
  settled-last (Some two) is l = absurd (none-some two (sym is))

  settled : s.begun ≡ true → (n : ℕ) → n < length (held_in s ++ step.clause ∷ []) → slice_index_or (s.pairs ++ pair ∷ []) n None ≡ None
      → IsSettled now (hinted (held_in s ++ step.clause ∷ []) n)
  settled begun =
      which (λ n. slice_index_or (s.pairs ++ pair ∷ []) n None ≡ None → IsSettled now (hinted (held_in s ++ step.clause ∷ []) n))
      (λ n lt none.
      let (l, there, is) = search.settled begun n lt (sym (old-pair n lt) ∙ none) in
      rw (get_or_append_left (held_in s) (step.clause ∷ []) [] n lt) (l, there, IsTrueUnder-append s.trail (entry ∷ []) l 0 is))
      (λ none. rw last (settled-last pair (sym pair-last ∙ none) learned))

  pub learned-search : IsSearch (record s { steps = s.steps ++ step ∷ []; trail = now; watches = watches; pairs = s.pairs ++ pair ∷ []; phase = Fresh })
  learned-search =
      let still : AreKept s.vars (held_with s.clauses (s.steps ++ step ∷ [])) watches (s.pairs ++ pair ∷ []) = rw held-is kept in
      record {
        few_vars = search.few_vars;
        few_clauses = search.few_clauses;
        few = omega (arith, few, number_is, length_push s.steps step);
        clauses_within = search.clauses_within;
        steps_within = All-push (λ (st : Step). All (IsWithin s.vars) st.clause) s.steps step search.steps_within within;
        good = good-push s.clauses s.steps step search.good good;
        trail = new-trail;
        gone = omega (arith, search.gone, length_push s.trail entry);
        ahead = λ place e ahead at.
            ⊎_elim (λ old. search.ahead place e ahead old ∙ sym same-decisions) (λ new. sym (ap (λ (x : Entry). x.decision) new.1) ∙ sym same-decisions)
            (push-place s.trail entry e place at);
        watched = record {
          heads = still.heads;
          each = still.each;
          two = still.two;
          lists = still.lists;
          backed = subst (λ held. (n : ℕ) → n < length held → IsBackedPair now s.gone (slice_index_or (s.pairs ++ pair ∷ []) n None)) (sym held-is) backed;
        };
        waiting = λ begun. same-decisions ∙ search.waiting begun;
        settled = λ begun. subst
            (λ held. (n : ℕ) → n < length held → slice_index_or (s.pairs ++ pair ∷ []) n None ≡ None → IsSettled now (hinted held n)) (sym held-is) (settled begun);
        phase = tt;
      }
