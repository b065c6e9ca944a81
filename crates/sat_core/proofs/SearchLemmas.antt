-- What a search keeps as it begins, as a literal is decided, and as decisions are taken back.
use Rattle.std.proofs.Common.{◌≡◌, ◌≢◌, ℕ, ◌+◌, ◌*◌, ◌<◌, ◌≤◌, ◌==◌, if◌then◌else◌, Bool, true, false, List, [], ◌∷◌, ◌++◌, length, take, slice_get, slice_index_or, replicate, Option, Some, None, IfSome, All, refl, sym, ap, subst, ◌∙◌, ⊎_elim, arith}
use Rattle.std.proofs.lemmas.Bool.{eq-eqb, ne_eqb, cases_eq, cases_lt}
use Rattle.std.proofs.lemmas.List.{append-nil, get_or_append_left, get_or_past, get_or_push, get_or-replicate, length_push, length-replicate, length-take-le, take_more}
use Rattle.std.proofs.lemmas.List.Elements.{All-contains, All-nil, All-push}
use Rattle.std.proofs.lemmas.Option.{get_or_from_slice_get, none-some, slice_get_within}
use Rattle.sat_cnf.specs.declared.lit.Lit.{Lit}
use Rattle.sat_cnf.specs.Clauses.{Cnf, IsWithin}
use Rattle.sat_proof.specs.Propagation.{IsUndecided}
use Rattle.sat_proof.specs.Refutations.{held_with, hinted}
use Rattle.sat_proof.specs.declared.step.Step.{Step}
use Rattle.sat_watch.specs.Watching.{Watched}
use Rattle.sat_core.specs.declared.entry.Entry.{Entry}
use Rattle.sat_core.specs.declared.pair.Pair.{Pair}
use Rattle.sat_core.specs.declared.phase.Phase.TheVariants.{Fresh, Quiet}
use Rattle.sat_core.specs.Searching.{IsSearch, IsInPhase, State, held_in, most}
use Rattle.sat_core.specs.Trails.{decisions_of, lits_of, under}
use Rattle.sat_core.specs.Watching.{IsBacked, IsBackedPair, IsPairOf, times_in, watches_at}
use Rattle.sat_core.proofs.PlaceLemmas.{Contains-at, push-place}
use Rattle.sat_core.proofs.TrailLemmas.{IsTrail-push, IsTrail-under, IsTrueUnder-append, IsTrueUnder-under, decisions_of-push, in-order, under-Contains, under-place}

-- each clause is watched at its two literals and nowhere else
pub record AreKept (vars : ℕ) (held : List (List Lit)) (watches : Watched) (pairs : List (Option Pair)) : Type 0 where
  pub heads : length watches.lists ≡ 2 * vars + 1
  pub each : length pairs ≡ length held
  pub two : (number : ℕ) → number < length held → IsPairOf (hinted held number) (slice_index_or pairs number None)
  pub lists : (number : ℕ) (lit : Lit) → IsWithin vars lit → watches_at watches lit number ≡ times_in (slice_index_or pairs number None) lit

-- no clause
pub kept-none : (vars : ℕ) (watches : Watched) (pairs : List (Option Pair)) → watches ≡ record { lists = replicate (2 * vars + 1) []; clauses = [] } → pairs ≡ []
    → AreKept vars [] watches pairs
kept-none vars watches pairs made none = record {
  heads = rw made (length-replicate {A = List ℕ} (2 * vars + 1) []);
  each = rw none refl;
  two = λ number within. absurd (omega arith);
  lists = λ number lit within. rw (made, none, get_or-replicate {A = List ℕ} (2 * vars + 1) lit.0 [] [] (omega (arith, within))) refl;
}

abbrev times_if : Bool → ℕ → ℕ
times_if b n = if b then n else 0

-- one clause more, which is watched once more at each literal of its pair
module _ (vars : ℕ) (held : List (List Lit)) (old new : Watched) (pairs : List (Option Pair)) (clause : List Lit) (pair : Option Pair)
    (kept : AreKept vars held old pairs)
    (of : IsPairOf clause pair)
    (heads : length new.lists ≡ length old.lists)
    (counts : (lit : Lit) (other : ℕ) → lit.0 < 2 * vars → watches_at new lit other ≡ watches_at old lit other + times_if (other == length held) (times_in pair lit)) where
  two-more : (number : ℕ) → number < length (held ++ clause ∷ []) → IsPairOf (hinted (held ++ clause ∷ []) number) (slice_index_or (pairs ++ pair ∷ []) number None)
  two-more number within =
      ⊎_elim
      (λ lt. rw (get_or_append_left held (clause ∷ []) [] number lt, get_or_append_left pairs (pair ∷ []) None number (omega (arith, lt, kept.each))) (kept.two number lt))
      (λ ge. let last : length held ≡ number = omega (arith, ge, within, length_push held clause) in
      rw (get_or_push held clause [] number last, get_or_push pairs pair None number (kept.each ∙ last)) of)
      (cases_lt number (length held))

  lists-other : (number : ℕ) (lit : Lit) → IsWithin vars lit → number ≢ length held → slice_index_or (pairs ++ pair ∷ []) number None ≡ slice_index_or pairs number None
      → watches_at new lit number ≡ times_in (slice_index_or (pairs ++ pair ∷ []) number None) lit
  lists-other number lit within ne same =
      rw same (counts lit number within ∙ rw (ne_eqb number (length held) ne) (omega (arith, kept.lists number lit within)))

  lists-more : (number : ℕ) (lit : Lit) → IsWithin vars lit → watches_at new lit number ≡ times_in (slice_index_or (pairs ++ pair ∷ []) number None) lit
  lists-more number lit within =
      ⊎_elim
      (λ last.
      let none : times_in (slice_index_or pairs number None) lit ≡ 0 = rw (get_or_past pairs number None (omega (arith, last, kept.each))) refl in
      rw (get_or_push pairs pair None number (kept.each ∙ sym last))
      (counts lit number within ∙ rw (eq-eqb number (length held) last) (omega (arith, kept.lists number lit within, none))))
      (λ ne.
      ⊎_elim (λ lt. lists-other number lit within ne (get_or_append_left pairs (pair ∷ []) None number (omega (arith, lt, kept.each))))
      (λ ge. lists-other number lit within ne
      (get_or_past (pairs ++ pair ∷ []) number None (omega (arith, ge, ne, kept.each, length_push pairs pair)) ∙ sym (get_or_past pairs number None (omega (arith, ge, kept.each)))))
      (cases_lt number (length held)))
      (cases_eq number (length held))

  pub kept-more : AreKept vars (held ++ clause ∷ []) new (pairs ++ pair ∷ [])
  kept-more = record {
    heads = heads ∙ kept.heads;
    each = omega (arith, kept.each, length_push held clause, length_push pairs pair);
    two = two-more;
    lists = lists-more;
  }

pub held-none : (clauses : List (List Lit)) → held_with clauses [] ≡ clauses
held-none clauses = append-nil clauses

none-gone : (trail : List Entry) (pair : Option Pair) → IsBackedPair trail 0 pair
none-gone trail None = tt
none-gone trail (Some pair) = (λ place entry below at is. absurd (omega arith), λ place entry below at is. absurd (omega arith))

-- a search begins
pub begins : (cnf : Cnf) (steps : List Step) (trail : List Entry) (watches : Watched) (pairs : List (Option Pair))
    → cnf.vars ≤ most → length cnf.list ≤ most → All (All (IsWithin cnf.vars)) cnf.list → steps ≡ [] → trail ≡ [] → AreKept cnf.vars cnf.list watches pairs
    → IsSearch (record { vars = cnf.vars; clauses = cnf.list; steps = steps; trail = trail; watches = watches; pairs = pairs; gone = 0; begun = false; phase = Fresh })
begins cnf steps trail watches pairs few_vars few_clauses within no_steps no_trail kept =
    let held : held_with cnf.list steps ≡ cnf.list = rw no_steps (held-none cnf.list) in
    let still : AreKept cnf.vars (held_with cnf.list steps) watches pairs = rw held kept in
    record {
      few_vars = few_vars;
      few_clauses = few_clauses;
      few = rw no_steps (omega (arith, few_clauses));
      clauses_within = within;
      steps_within = rw no_steps (All-nil (λ (step : Step). All (IsWithin cnf.vars) step.clause));
      good = rw no_steps (λ place below. absurd (omega (arith, below)));
      trail = rw no_trail (λ place entry at. absurd (none-some entry at));
      gone = omega arith;
      ahead = rw no_trail (λ place entry ahead at. absurd (none-some entry at));
      watched = record {
        heads = still.heads;
        each = still.each;
        two = still.two;
        lists = still.lists;
        backed = λ number below. none-gone trail (slice_index_or pairs number None);
      };
      waiting = λ _. rw no_trail refl;
      settled = λ begun. absurd (cc);
      phase = tt;
    }

-- one more entry

pub old-place : (entries : List Entry) (entry other : Entry) (place : ℕ) → place < length entries → slice_get (entries ++ entry ∷ []) place ≡ Some other
    → slice_get entries place ≡ Some other
old-place entries entry other place below at =
    ⊎_elim (λ old. old) (λ new. absurd (omega (arith, new.0, below))) (push-place entries entry other place at)

IsBacked-push : (entries : List Entry) (new : Entry) (gone : ℕ) (lit other : Lit) → gone ≤ length entries → IsBacked entries gone lit other
    → IsBacked (entries ++ new ∷ []) gone lit other
IsBacked-push entries new gone lit other within backed place entry below at is =
    let old = backed place entry below (old-place entries new entry place (omega (arith, below, within)) at) is in
    (old.0, IsTrueUnder-append entries (new ∷ []) other old.0 old.1, old.2)

pub IsBackedPair-push : (entries : List Entry) (new : Entry) (gone : ℕ) (pair : Option Pair) → gone ≤ length entries → IsBackedPair entries gone pair
    → IsBackedPair (entries ++ new ∷ []) gone pair
IsBackedPair-push entries new gone None within backed = tt
IsBackedPair-push entries new gone (Some pair) within backed =
    (IsBacked-push entries new gone pair.first pair.second within backed.0, IsBacked-push entries new gone pair.second pair.first within backed.1)

-- a literal is decided
pub decides : (s : State) (lit : Lit) → IsSearch s → s.phase ≡ Quiet → IsWithin s.vars lit → IsUndecided (lits_of s.trail) lit
    → IsSearch (record s { trail = s.trail ++ record { lit = lit; decision = decisions_of s.trail + 1; reason = None } ∷ []; phase = Fresh })
decides s lit search quiet within undecided =
    let entry : Entry = record { lit = lit; decision = decisions_of s.trail + 1; reason = None } in
    let still : (s.begun ≡ true) × (s.gone ≡ length s.trail) = subst (IsInPhase s) quiet search.phase in
    let more : decisions_of (s.trail ++ entry ∷ []) ≡ decisions_of s.trail + 1 = omega (arith, decisions_of-push s.trail entry) in
    record {
      few_vars = search.few_vars;
      few_clauses = search.few_clauses;
      few = search.few;
      clauses_within = search.clauses_within;
      steps_within = search.steps_within;
      good = search.good;
      trail = IsTrail-push s.vars (held_in s) s.trail entry search.trail (record { within = within; undecided = undecided; reason = refl });
      gone = omega (arith, search.gone, length_push s.trail entry);
      ahead = λ place other ahead at.
          ⊎_elim (λ old. absurd (omega (arith, slice_get_within s.trail place other old, still.1, ahead)))
          (λ last. sym (ap (λ (e : Entry). e.decision) last.1) ∙ sym more)
          (push-place s.trail entry other place at);
      watched = record {
        heads = search.watched.heads;
        each = search.watched.each;
        two = search.watched.two;
        lists = search.watched.lists;
        backed = λ number below. IsBackedPair-push s.trail entry s.gone (slice_index_or s.pairs number None) search.gone (search.watched.backed number below);
      };
      waiting = λ begun. absurd (let begins = still.0 in cc);
      settled = λ begun number below none.
          let (l, stands, is) = search.settled begun number below none in (l, stands, IsTrueUnder-append s.trail (entry ∷ []) l 0 is);
      phase = tt;
    }

-- decisions are taken back
module _ (s : State) (decisions : ℕ) (search : IsSearch s) (earlier : decisions < decisions_of s.trail) where
  abbrev kept : List Entry
  kept = under decisions s.trail

  kept-place : (place : ℕ) (entry : Entry) → slice_get kept place ≡ Some entry → slice_get s.trail place ≡ Some entry
  kept-place = under-place s.vars decisions s.trail (in-order s.vars (held_in s) s.trail search.trail)

  kept-early : (place : ℕ) (entry : Entry) → slice_get kept place ≡ Some entry → entry.decision ≤ decisions
  kept-early place entry at = (under-Contains decisions s.trail entry (Contains-at kept place entry at)).1

  -- what is kept was gone past
  gone-past : (place : ℕ) (entry : Entry) → slice_get kept place ≡ Some entry → place < s.gone
  gone-past place entry at =
      ⊎_elim (λ lt. lt) (λ ge. absurd (omega (arith, search.ahead place entry ge (kept-place place entry at), kept-early place entry at, earlier))) (cases_lt place s.gone)

  still-backed : (lit other : Lit) → IsBacked s.trail s.gone lit other → IsBacked kept (length kept) lit other
  still-backed lit other backed place entry below at is =
      let back = backed place entry (gone-past place entry at) (kept-place place entry at) is in
      (back.0, IsTrueUnder-under decisions s.trail other back.0 back.1 (omega (arith, back.2, kept-early place entry at)), back.2)

  still-backed_pair : (pair : Option Pair) → IsBackedPair s.trail s.gone pair → IsBackedPair kept (length kept) pair
  still-backed_pair None backed = tt
  still-backed_pair (Some pair) backed = (still-backed pair.first pair.second backed.0, still-backed pair.second pair.first backed.1)

  pub undoes : IsSearch (record s { trail = under decisions s.trail; gone = length (under decisions s.trail); phase = Fresh })
  undoes = record {
    few_vars = search.few_vars;
    few_clauses = search.few_clauses;
    few = search.few;
    clauses_within = search.clauses_within;
    steps_within = search.steps_within;
    good = search.good;
    trail = IsTrail-under s.vars (held_in s) decisions s.trail search.trail;
    gone = omega arith;
    ahead = λ place entry ahead at. absurd (omega (arith, ahead, slice_get_within kept place entry at));
    watched = record {
      heads = search.watched.heads;
      each = search.watched.each;
      two = search.watched.two;
      lists = search.watched.lists;
      backed = λ number below. still-backed_pair (slice_index_or s.pairs number None) (search.watched.backed number below);
    };
    waiting = λ begun. absurd (omega (arith, search.waiting begun, earlier));
    settled = λ begun number below none.
        let (l, stands, is) = search.settled begun number below none in (l, stands, IsTrueUnder-under decisions s.trail l 0 is (omega arith));
    phase = tt;
  }

-- the next of the clauses
module _ (cnf : Cnf) (number : ℕ) (clause : List Lit) (below : number < length cnf.list) (at : slice_get cnf.list number ≡ Some clause) where
  next : take (number + 1) cnf.list ≡ take number cnf.list ++ clause ∷ []
  next = take_more cnf.list number clause below ∙ ap (λ c. take number cnf.list ++ c ∷ []) (get_or_from_slice_get cnf.list number clause clause at)

  long : length (take number cnf.list) ≡ number
  long = length-take-le number cnf.list (omega arith)

  pub next-kept : (old new : Watched) (pairs : List (Option Pair)) (pair : Option Pair) → AreKept cnf.vars (take number cnf.list) old pairs → IsPairOf clause pair
      → length new.lists ≡ length old.lists
      → ((lit : Lit) (other : ℕ) → lit.0 < 2 * cnf.vars → watches_at new lit other ≡ watches_at old lit other + times_if (other == number) (times_in pair lit))
      → AreKept cnf.vars (take (number + 1) cnf.list) new (pairs ++ pair ∷ [])
  next-kept old new pairs pair kept of heads counts =
      rw next (kept-more cnf.vars (take number cnf.list) old new pairs clause pair kept of heads (rw long counts))

  pub next-within : All (All (IsWithin cnf.vars)) (take number cnf.list) → All (IsWithin cnf.vars) clause → All (All (IsWithin cnf.vars)) (take (number + 1) cnf.list)
  next-within all here = rw next (All-push (All (IsWithin cnf.vars)) (take number cnf.list) clause all here)

-- the literals of a pair are those of the clause
pub pair-within : (vars : ℕ) (clause : List Lit) (pair : Option Pair) → All (IsWithin vars) clause → IsPairOf clause pair
    → IfSome pair (λ two. (two.first.0 < 2 * vars) × (two.second.0 < 2 * vars) × (two.first ≢ two.second))
pair-within vars clause None all of = tt
pair-within vars clause (Some pair) all of = (All-contains (IsWithin vars) clause pair.first all of.0, All-contains (IsWithin vars) clause pair.second all of.1, of.2)
