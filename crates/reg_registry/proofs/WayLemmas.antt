-- The names that are met from one on, and the way back.
use Rattle.std.proofs.Common.{◌≡◌, ◌≢◌, ℕ, zero, suc, ◌+◌, ◌<◌, ◌≤◌, ◌⊎◌, inl, inr, ⊎_elim, Bool, true, false, List, [], ◌∷◌, ◌++◌, length, append-nil, drop, get_or, replicate, reverse, set, slice_get, take, Some, Contains, refl, sym, ap, subst, ◌∙◌, length-append, length-set, arith}
use Rattle.std.proofs.Math.ListN.{drop_of_length-le}
use Rattle.std.proofs.lemmas.List.{get_or-replicate, length-replicate, reverse-append, take_all}
use Rattle.std.proofs.lemmas.Option.{none-some, same_Some, get_or_from_slice_get, slice_get_within, slice_get-get_or}
use Rattle.reg_registry.specs.declared.registry.Row.{Row}
use Rattle.reg_registry.specs.declared.circles.way.Met.{Met}
use Rattle.reg_registry.specs.Naming.{IsOnCircle, LeadBack, Leads, step, more, Names}
use Rattle.reg_registry.specs.Ways.{AreLookedAt, IsLed, IsMetAt, IsMore, IsSearch, IsSeen, IsWayFrom, IsWayRound, Searched, unseen_of}
use Rattle.reg_registry.proofs.PlacedLemmas.{Contains-cases, left-place, push-place, seam-place, set-other, set-place, set-same}
use Rattle.reg_registry.proofs.WalkCloseLemmas.{before-or-not}
use Rattle.reg_registry.proofs.WalkWeightLemmas.{same-or-not}

unseen-set : (seen : List Bool) (name : ℕ) → slice_get seen name ≡ Some false → 1 + unseen_of (set seen name true) ≡ unseen_of seen
unseen-set [] name e = absurd (cc)
unseen-set (true ∷ seen) zero e = absurd (cc (e))
unseen-set (false ∷ seen) zero e = refl
unseen-set (true ∷ seen) (suc name) e = unseen-set seen name e
unseen-set (false ∷ seen) (suc name) e = omega (arith, unseen-set seen name e)

unseen-all : (n : ℕ) → unseen_of (replicate n false) ≡ n
unseen-all zero = refl
unseen-all (suc n) = omega (arith, unseen-all n)

seen-stays : (seen : List Bool) (name other : ℕ) → IsSeen seen other → IsSeen (set seen name true) other
seen-stays seen name other e =
    ⊎_elim
    (λ (q : other ≡ name). subst (λ (x : ℕ). IsSeen (set seen x true) other) q (set-same seen other true true e))
    (λ (d : other ≢ name). set-other seen name other true d ∙ e)
    (same-or-not other name)

module _ (rows : List Row) (first : ℕ) where
  -- a name is met
  module _ (s : Searched) (search : IsSearch rows first s) (place name : ℕ) (within : name < length rows)
      (leader : Met) (here : slice_get s.met place ≡ Some leader) (names : Names rows leader.name name) (new : slice_get s.seen name ≡ Some false) where
    abbrev met-entry : Met
    met-entry = record { name = name; by = place }

    abbrev pub met-more : Searched
    met-more = record { seen = set s.seen name true; met = s.met ++ record { name = name; by = place } ∷ [] }

    old-place : (k : ℕ) (entry : Met) → slice_get s.met k ≡ Some entry → slice_get met-more.met k ≡ Some entry
    old-place k entry e = left-place s.met (met-entry ∷ []) k entry e

    cases : (k : ℕ) (entry : Met) → slice_get met-more.met k ≡ Some entry → (slice_get s.met k ≡ Some entry) ⊎ ((k ≡ length s.met) × (met-entry ≡ entry))
    cases k entry e = push-place s.met met-entry entry k e

    not-seen : (k : ℕ) (entry : Met) → slice_get s.met k ≡ Some entry → entry.name ≡ name → ⊥
    not-seen k entry e q = let t : slice_get s.seen name ≡ Some true = subst (λ (x : ℕ). IsSeen s.seen x) q (search.marked k entry e) in cc (t, new)

    meet-led : (k : ℕ) (entry : Met) → slice_get met-more.met k ≡ Some entry → (k ≡ 0) ⊎ IsLed rows met-more.met k entry
    meet-led k entry e =
        ⊎_elim
        (λ h. ⊎_elim (λ z. inl z) (λ l. inr (record { before = l.before; leader = l.leader; here = old-place entry.by l.leader l.here; names = l.names })) (search.led k entry h))
        (λ h.
        let base : IsLed rows met-more.met k met-entry =
        record { before = omega (arith, h.0, slice_get_within s.met place leader here); leader = leader; here = old-place place leader here; names = names } in
        inr (subst (λ (x : Met). IsLed rows met-more.met k x) h.1 base))
        (cases k entry e)

    meet-differ : (k l : ℕ) (one two : Met) → slice_get met-more.met k ≡ Some one → slice_get met-more.met l ≡ Some two → one.name ≡ two.name → k ≡ l
    meet-differ k l one two e f q =
        ⊎_elim
        (λ h. ⊎_elim (λ g. search.differ k l one two h g q) (λ g. absurd (not-seen k one h (q ∙ ap (λ (x : Met). x.name) (sym g.1)))) (cases l two f))
        (λ h. ⊎_elim (λ g. absurd (not-seen l two g (sym q ∙ ap (λ (x : Met). x.name) (sym h.1)))) (λ g. h.0 ∙ sym g.0) (cases l two f))
        (cases k one e)

    pub search-meet : IsSearch rows first met-more
    search-meet = record {
      count = length-set s.seen name true ∙ search.count;
      each_once = omega (arith, search.each_once, unseen-set s.seen name new, length-append s.met (met-entry ∷ []));
      start = (search.start.0, old-place 0 search.start.0 search.start.1, search.start.2);
      within = λ k entry e.
          ⊎_elim (λ h. search.within k entry h) (λ h. subst (λ (x : Met). x.name < length rows) h.1 within) (cases k entry e);
      led = meet-led;
      differ = meet-differ;
      marked = λ k entry e.
          ⊎_elim (λ h. seen-stays s.seen name entry.name (search.marked k entry h))
          (λ h. subst (λ (x : Met). IsSeen (set s.seen name true) x.name) h.1 (set-same s.seen name true false new)) (cases k entry e);
      seen = λ n e.
          ⊎_elim
          (λ h. record { place = length s.met; entry = met-entry; here = seam-place s.met met-entry []; named = sym h.0 })
          (λ h. let m = search.seen n h.1 in record { place = m.place; entry = m.entry; here = old-place m.place m.entry m.here; named = m.named })
          (set-place s.seen name n true true e);
    }

    pub meet-more : IsMore s met-more
    meet-more = record { met = old-place; seen = λ n e. seen-stays s.seen name n e }

    pub meet-seen : IsSeen met-more.seen name
    meet-seen = set-same s.seen name true false new

  pub search-begin : (name : ℕ) → name ≡ first → first < length rows → IsSearch rows first (record { seen = set (replicate (length rows) false) first true; met = record { name = name; by = 0 } ∷ [] })
  search-begin name same within = record {
    count = length-set (replicate (length rows) false) first true ∙ length-replicate (length rows) false;
    each_once = omega (arith, unseen-set (replicate (length rows) false) first new, unseen-all (length rows));
    start = (record { name = name; by = 0 }, refl, same);
    within = λ k entry e. subst (λ (x : Met). x.name < length rows) (one k entry e).1 (omega (arith, same, within));
    led = λ k entry e. inl (one k entry e).0;
    differ = λ k l a b e f q. (one k a e).0 ∙ sym (one l b f).0;
    marked = λ k entry e. subst (λ (x : Met). IsSeen (set (replicate (length rows) false) first true) x.name) (one k entry e).1
        (subst (λ (x : ℕ). IsSeen (set (replicate (length rows) false) first true) x) (sym same) (set-same (replicate (length rows) false) first true false new));
    seen = λ n e.
        ⊎_elim (λ h. record { place = 0; entry = record { name = name; by = 0 }; here = refl; named = same ∙ sym h.0 })
        (λ h. absurd (cc (all-false (length rows) n true h.1)))
        (set-place (replicate (length rows) false) first n true true e);
  }
    where
      all-false : (n k : ℕ) (b : Bool) → slice_get (replicate n false) k ≡ Some b → b ≡ false
      all-false n k b e =
          sym (get_or_from_slice_get (replicate n false) k b true e)
          ∙ get_or-replicate n k false true (omega (arith, slice_get_within (replicate n false) k b e, length-replicate n false))

      new : slice_get (replicate (length rows) false) first ≡ Some false
      new =
          slice_get-get_or (replicate (length rows) false) first false (omega (arith, within, length-replicate (length rows) false))
          ∙ ap Some (get_or-replicate (length rows) first false false within)

      one : (k : ℕ) (entry : Met) → slice_get (record { name = name; by = 0 } ∷ []) k ≡ Some entry → (k ≡ 0) × (◌≡◌ {A = Met} (record { name = name; by = 0 }) entry)
      one zero entry e = (refl, same_Some (record { name = name; by = 0 }) entry e)
      one (suc k) entry e = absurd (none-some entry e)

  -- all that was met was looked at, and none names the first
  pub no-circle : (s : Searched) → IsSearch rows first s → (place : ℕ) → length s.met ≤ place → AreLookedAt rows first s place → IsOnCircle rows first → ⊥
  no-circle s search place l looked circle =
      by circle (record { place = 0; entry = search.start.0; here = search.start.1; named = search.start.2 }) refl
    where
      by : {a b : ℕ} → Leads rows a b → IsMetAt s.met a → b ≡ first → ⊥
      by {a} {b} (step n) m q =
          (looked m.place m.entry (omega (arith, l, slice_get_within s.met m.place m.entry m.here)) m.here b (subst (λ (x : ℕ). Names rows x b) (sym m.named) n)).1 q
      by {a} {b} (more {next = next} n r) m q =
          by r (search.seen next (looked m.place m.entry (omega (arith, l, slice_get_within s.met m.place m.entry m.here)) m.here next (subst (λ (x : ℕ). Names rows x next) (sym m.named) n)).0) q

  pub looked-more : (s t : Searched) → IsMore s t → (place : ℕ) (at : Met) → slice_get s.met place ≡ Some at → AreLookedAt rows first s place
      → (Names rows at.name first → ⊥) → ((other : ℕ) → Names rows at.name other → IsSeen t.seen other) → AreLookedAt rows first t (place + 1)
  looked-more s t grown place at here looked never met before entry l e other n =
      ⊎_elim
      (λ (b : before < place).
      let old : slice_get s.met before ≡ Some (get_or s.met before at) = slice_get-get_or s.met before at (omega (arith, b, slice_get_within s.met place at here)) in
      let same : get_or s.met before at ≡ entry = same_Some (get_or s.met before at) entry (sym (grown.met before (get_or s.met before at) old) ∙ e) in
      let r = looked before entry b (old ∙ ap Some same) other n in (grown.seen other r.0, r.1))
      (λ (b : place ≤ before).
      let here2 : place ≡ before = omega (arith, b, l) in
      let same : at ≡ entry = same_Some at entry (sym (grown.met place at here) ∙ subst (λ (x : ℕ). slice_get t.met x ≡ Some entry) (sym here2) e) in
      let n2 : Names rows at.name other = subst (λ (x : Met). Names rows x.name other) (sym same) n in
      (met other n2, λ q. never (subst (λ (x : ℕ). Names rows at.name x) q n2)))
      (before-or-not before place)

  -- the way back
  pub way-begin : (met : List Met) (place : ℕ) (entry : Met) → slice_get met place ≡ Some entry → Names rows entry.name first → IsWayFrom rows first met place []
  way-begin met place entry e n = record { entry = entry; here = e; lead = n; differ = tt; behind = λ name c. absurd (omega (arith, c.1)) }

  pub way-led : (s : Searched) → IsSearch rows first s → (place : ℕ) (entry : Met) → slice_get s.met place ≡ Some entry → 0 < place → IsLed rows s.met place entry
  way-led s search place entry e l = ⊎_elim (λ z. absurd (omega (arith, z, l))) (λ r. r) (search.led place entry e)

  pub way-more : (s : Searched) → IsSearch rows first s → (place : ℕ) (names : List ℕ) → IsWayFrom rows first s.met place names
      → (entry : Met) → slice_get s.met place ≡ Some entry → 0 < place → IsWayFrom rows first s.met entry.by (entry.name ∷ names)
  way-more s search place names way entry e l =
      let led = way-led s search place entry e l in
      let same : way.entry ≡ entry = same_Some way.entry entry (sym way.here ∙ e) in
      record {
        entry = led.leader;
        here = led.here;
        lead = (led.names, subst (λ (x : Met). LeadBack rows x.name names first) same way.lead);
        differ = (
          (λ c. let b = way.behind entry.name c in
              omega (arith, b.behind, search.differ b.at place b.entry entry b.here e b.named)),
          way.differ,
        );
        behind = λ name c.
            ⊎_elim
            (λ (q : entry.name ≡ name). record { at = place; entry = entry; behind = led.before; here = e; named = q })
            (λ (r : Contains names name). let b = way.behind name r in record { at = b.at; entry = b.entry; behind = omega (arith, b.behind, led.before); here = b.here; named = b.named })
            (Contains-cases entry.name names name c);
      }

  pub way-end : (s : Searched) → IsSearch rows first s → (names circle : List ℕ) → IsWayFrom rows first s.met 0 names
      → (entry : Met) → slice_get s.met 0 ≡ Some entry → circle ≡ entry.name ∷ names → IsWayRound rows first circle
  way-end s search names circle way entry e c =
      let same : way.entry ≡ entry = same_Some way.entry entry (sym way.here ∙ e) in
      let is-first : entry.name ≡ first = ap (λ (x : Met). x.name) (same_Some entry search.start.0 (sym e ∙ search.start.1)) ∙ search.start.2 in
      record {
        others = names;
        begins = c ∙ ap (λ (x : ℕ). x ∷ names) is-first;
        differ = (
          (λ k. let b = way.behind first k in
              omega (arith, b.behind, search.differ b.at 0 b.entry entry b.here e (b.named ∙ sym is-first))),
          way.differ,
        );
        lead = subst (λ (x : ℕ). LeadBack rows x names first) is-first (subst (λ (x : Met). LeadBack rows x.name names first) same way.lead);
      }

pub more-more : (s t u : Searched) → IsMore s t → IsMore t u → IsMore s u
more-more s t u m n = record { met = λ k entry e. n.met k entry (m.met k entry e); seen = λ name e. n.seen name (m.seen name e) }

pub last-first : (xs ys : List ℕ) (x : ℕ) → ys ≡ xs ++ x ∷ [] → reverse ys ≡ x ∷ reverse xs
last-first xs ys x e = ap (λ (z : List ℕ). reverse z) e ∙ reverse-append xs (x ∷ [])

-- what is written back to a vector of as many
pub written : (xs ys : List ℕ) (n : ℕ) → n ≡ length xs → length ys ≡ length xs → take n (ys ++ drop (length ys) xs) ≡ ys
written xs ys n l m =
    let none : drop (length ys) xs ≡ [] = drop_of_length-le xs (omega (arith, m)) in
    let all : ys ++ drop (length ys) xs ≡ ys = ap (λ (z : List ℕ). ys ++ z) none ∙ append-nil ys in
    ap (λ (z : List ℕ). take n z) all ∙ take_all n ys (omega (arith, l, m))
