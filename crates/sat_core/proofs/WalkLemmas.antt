-- Going over the watchers of a literal, and over the trail.
use Rattle.std.proofs.Common.{◌≡◌, ◌≢◌, ℕ, ◌+◌, ◌<◌, ◌≤◌, true, List, [], ◌∷◌, ◌++◌, length, get_or, Option, Some, None, Contains, All, refl, sym, ap, subst, ◌∙◌, arith, append_assoc}
use Rattle.std.specs.Prelude.{slice_get}
use Rattle.std.specs.Option.{is_some}
use Rattle.std.proofs.lemmas.List.{append-nil}
use Rattle.std.proofs.lemmas.List.Elements.{All-push, All-weaker, Contains-append_left}
use Rattle.std.proofs.lemmas.Option.{slice_get_within, slice_get-get_or}
use Rattle.sat_cnf.specs.declared.lit.Lit.{Lit}
use Rattle.sat_cnf.specs.Clauses.{IsWithin}
use Rattle.sat_cnf.specs.Lits.{negation_of}
use Rattle.sat_watch.specs.Watching.{BeginsWith, StandsAt, StandsOnce, Watched, list_at}
use Rattle.sat_core.specs.declared.entry.Entry.{Entry}
use Rattle.sat_core.specs.declared.pair.Pair.{Pair}
use Rattle.sat_core.specs.declared.phase.Phase.{Phase}
use Rattle.sat_core.specs.declared.phase.Phase.TheVariants.{Fresh, Quiet, Struck}
use Rattle.sat_core.specs.Trails.{lits_of}
use Rattle.sat_core.specs.Searching.{AreWatched, IsInPhase, IsNotStruck, IsSearch, Propagates, State}
use Rattle.sat_core.specs.Walking.{ComesTo, Grows, IsPassedAt, IsStruck, IsWalking, Waits, clause_of, left_from}
use Rattle.sat_core.proofs.LiteralLemmas.{negation-negation}
use Rattle.sat_core.proofs.EntryLemmas.{slice_get-left}
use Rattle.sat_core.proofs.WatchLemmas.{left-here, not-passed, passed-all}
use Rattle.sat_core.proofs.PropagationLemmas.{all-open}

left-next : (passed rest : List ℕ) (next : Option ℕ) → BeginsWith rest next → ((at : ℕ) (behind : List ℕ) → rest ≡ at ∷ behind → ¬ Contains passed at) → left_from (passed ++ rest) next ≤ length rest
left-next passed rest None first apart = omega arith
left-next passed rest (Some at) first apart =
    let here = ap (λ ws. left_from (passed ++ ws) (Some at)) first.1 ∙ left-here passed first.0 at (apart at first.0 first.1) in
    omega (arith, here, ap length first.1)

-- the next watcher of a literal, where the last one was visited
module _ (s new : State) (lit : Lit) (before at next : Option ℕ) (watcher : ℕ) (walking : IsWalking s lit before at) (at-is : at ≡ Some watcher)
    (watches : Watched) (same : watches ≡ s.watches) (once : StandsOnce watches)
    (next-is : (list : ℕ) (passed rest : List ℕ) → StandsAt watches.lists list passed watcher rest → BeginsWith rest next)
    (keeps : (number : ℕ) → IsPassedAt s lit number → IsPassedAt new lit number) where
  w : IsWalking s lit before (Some watcher)
  w = subst (IsWalking s lit before) at-is walking

  behind : List ℕ
  behind = (w.first).0

  stands : StandsAt s.watches.lists lit.0 w.passed watcher behind
  unfolding behind
  stands = w.split ∙ ap (λ ws. w.passed ++ ws) (w.first).1

  here-once : StandsOnce s.watches
  here-once = subst StandsOnce same once

  begins : BeginsWith behind next
  begins = next-is lit.0 w.passed behind (ap (λ ws. list_at ws.lists lit.0) same ∙ stands)

  stands-next : (first : ℕ) (rest : List ℕ) → behind ≡ first ∷ rest → StandsAt s.watches.lists lit.0 (w.passed ++ watcher ∷ []) first rest
  stands-next first rest e = stands ∙ ap (λ ws. w.passed ++ watcher ∷ ws) e ∙ sym (append_assoc w.passed (watcher ∷ []) (first ∷ rest))

  not-next : (first : ℕ) (rest : List ℕ) → behind ≡ first ∷ rest → ¬ Contains (w.passed ++ watcher ∷ []) first
  not-next first rest e = not-passed s.watches lit.0 first (w.passed ++ watcher ∷ []) rest here-once (stands-next first rest e)

  left-old : left_from (list_at s.watches.lists lit.0) at ≡ length behind + 1
  left-old =
      ap (left_from (list_at s.watches.lists lit.0)) at-is ∙ ap (λ ws. left_from ws (Some watcher)) stands
      ∙ left-here w.passed behind watcher (not-passed s.watches lit.0 watcher w.passed behind here-once stands)

  module _ (visited : (new.watches ≡ s.watches) × IsPassedAt new lit (clause_of s.watches watcher)) where
    stays-list : list_at new.watches.lists lit.0 ≡ (w.passed ++ watcher ∷ []) ++ behind
    stays-list = ap (λ ws. list_at ws.lists lit.0) visited.0 ∙ stands ∙ sym (append_assoc w.passed (watcher ∷ []) behind)

    pub walking-stays : IsWalking new lit (Some watcher) next
    walking-stays = record {
      passed = w.passed ++ watcher ∷ [];
      rest = behind;
      split = stays-list;
      last = (w.passed, refl);
      first = begins;
      done = subst (λ ws. All (λ x. IsPassedAt new lit (clause_of ws x)) (w.passed ++ watcher ∷ [])) (sym visited.0)
          (All-push (λ x. IsPassedAt new lit (clause_of s.watches x)) w.passed watcher
          (All-weaker (λ x. IsPassedAt s lit (clause_of s.watches x)) (λ x. IsPassedAt new lit (clause_of s.watches x)) (λ x p. keeps (clause_of s.watches x) p) w.passed w.done) visited.1);
    }

    pub smaller-stays : left_from (list_at new.watches.lists lit.0) next < left_from (list_at s.watches.lists lit.0) at
    smaller-stays =
        let n = left-next (w.passed ++ watcher ∷ []) behind next begins not-next in
        let e = ap (λ ws. left_from ws next) stays-list in
        omega (arith, n, e, left-old)

  module _ (visited : (new.watches.clauses ≡ s.watches.clauses)
      × ((passed rest : List ℕ) → StandsAt s.watches.lists lit.0 passed watcher rest → list_at new.watches.lists lit.0 ≡ passed ++ rest)) where
    pub walking-moves : IsWalking new lit before next
    walking-moves = record {
      passed = w.passed;
      rest = behind;
      split = visited.1 w.passed behind stands;
      last = w.last;
      first = begins;
      done = subst (λ clauses. All (λ x. IsPassedAt new lit (get_or clauses x 0)) w.passed) (sym visited.0)
          (All-weaker (λ x. IsPassedAt s lit (clause_of s.watches x)) (λ x. IsPassedAt new lit (clause_of s.watches x)) (λ x p. keeps (clause_of s.watches x) p) w.passed w.done);
    }

    pub smaller-moves : left_from (list_at new.watches.lists lit.0) next < left_from (list_at s.watches.lists lit.0) at
    smaller-moves =
        let n = left-next w.passed behind next begins (λ first rest e c. not-next first rest e (Contains-append_left w.passed (watcher ∷ []) first c)) in
        let e = ap (λ ws. left_from ws next) (visited.1 w.passed behind stands) in
        omega (arith, n, e, left-old)

-- where no watcher is left, all clauses are passed
pub walked-all : (s : State) (lit : Lit) (before at : Option ℕ) → IsWithin s.vars lit → AreWatched s → IsWalking s lit before at → at ≡ None → (number : ℕ) → IsPassedAt s lit number
walked-all s lit before at within watched walking none =
    let w = subst (IsWalking s lit before) none walking in
    passed-all s.vars s.watches s.pairs watched.lists (lits_of s.trail) lit w.passed within (w.split ∙ ap (λ ws. w.passed ++ ws) w.first ∙ append-nil w.passed) w.done

-- along the trail

pub comes-to : (trail : List Entry) (gone : ℕ) (entries : List Entry) (d : Entry) (lit : Lit) → entries ≡ trail → gone < length entries → lit ≡ negation_of (get_or entries gone d).lit
    → (entry : Entry) × (slice_get trail gone ≡ Some entry) × (entry.lit ≡ negation_of lit)
comes-to trail gone entries d lit same h e = (
  get_or entries gone d,
  ap (λ l. slice_get l gone) (sym same) ∙ slice_get-get_or entries gone d h,
  sym (negation-negation (get_or entries gone d).lit) ∙ ap negation_of (sym e),
)

pub comes-later : (old new : State) (lit : Lit) → Grows old new → Waits old new → ComesTo old lit → ComesTo new lit
comes-later old new lit g w c = (
  c.0,
  ap (λ t. slice_get t new.gone) g.trail_is ∙ ap (slice_get (old.trail ++ g.more)) w.gone_same
      ∙ slice_get-left old.trail g.more old.gone (slice_get_within old.trail old.gone c.0 c.1) ∙ c.1,
  c.2,
)

fresh-by : (s : State) (phase : Phase) → IsInPhase s phase → IsNotStruck phase → s.gone < length s.trail → phase ≡ Fresh
fresh-by s Fresh there not h = refl
fresh-by s Quiet there not h = absurd (omega (arith, there.1, h))
fresh-by s (Struck number) there not h = absurd not

pub fresh-there : (s : State) → IsSearch s → IsNotStruck s.phase → s.gone < length s.trail → s.phase ≡ Fresh
fresh-there s is not h = fresh-by s s.phase is.phase not h

pub propagates-struck : (old new : State) (number : ℕ) → Grows old new → IsStruck new number → Propagates old (record new { phase = Struck number }) (Some number)
propagates-struck old new number g struck = record {
  vars_same = g.vars_same;
  clauses_same = g.clauses_same;
  steps_same = g.steps_same;
  more = g.more;
  trail_is = g.trail_is;
  propagated = g.propagated;
  found_is = (refl, struck.0, (struck.1).0);
}

pub propagates-quiet : (old new : State) → Grows old new → IsSearch new → new.begun ≡ true → new.gone ≡ length new.trail → Propagates old (record new { phase = Quiet }) None
propagates-quiet old new g is begun all = record {
  vars_same = g.vars_same;
  clauses_same = g.clauses_same;
  steps_same = g.steps_same;
  more = g.more;
  trail_is = g.trail_is;
  propagated = g.propagated;
  found_is = (refl, all-open new is begun all);
}

-- a pair that is there
pub some-at : (pairs : List (Option Pair)) (place : ℕ) (found : Option Pair) → found ≡ get_or pairs place found → place < length pairs → is_some found ≡ true → get_or pairs place None ≢ None
some-at pairs place None at h e none = absurd (cc)
some-at pairs place (Some pair) at h e none =
    let a : Some (get_or pairs place None) ≡ Some (get_or pairs place (Some pair)) = sym (slice_get-get_or pairs place None h) ∙ slice_get-get_or pairs place (Some pair) h in
    absurd (cc)
