-- Trails: literals and their decisions, how decisions rise, and what stays when the last are undone.
use Rattle.std.proofs.Common.{◌≡◌, ℕ, ◌+◌, ◌-◌, ◌<◌, ◌≤◌, max, ◌⊎◌, inl, inr, ⊎_elim, true, false, eqb, nat_le, List, [], ◌∷◌, ◌++◌, length, map, take, drop, get_or, slice_get, Option, Some, None, All, Contains, refl, sym, ap, subst, ◌∙◌, le-leb, leb-true, eqb-true, le_antisymm, append_assoc, append-nil, length-append, take-append-drop, arith}
use Rattle.std.proofs.lemmas.Bool.{cases_Bool, cases_lt}
use Rattle.std.proofs.lemmas.List.{get_or_append_left, map-append, length-map}
use Rattle.std.proofs.lemmas.List.Elements.{Contains-push_cases, All-nil, All-cons, All-head, All-tail, All-push, All-contains, All-contains_itself, All-filter, All-weaker, Contains-append_left, Contains-push, filter-append, filter_passes}
use Rattle.std.proofs.lemmas.Cmp.{nat_eq_equiv}
use Rattle.std.proofs.lemmas.Map.Keys.{IsDistinct-push}
use Rattle.std.proofs.lemmas.Map.Steps.{length-le_from_distinct_below}
use Rattle.std.proofs.lemmas.Map.Views.{Contains-from_any}
use Rattle.std.proofs.lemmas.Option.{same_Some, slice_get-get_or}
use Rattle.std.specs.List.{IsDistinct, list_any}
use Rattle.sat_cnf.specs.declared.lit.Lit.{Lit}
use Rattle.sat_cnf.specs.Lits.{negation_of, variable_of}
use Rattle.sat_proof.specs.Propagation.{IsUnit, IsFalse, IsUndecided}
use Rattle.sat_core.specs.declared.entry.Entry.{Entry}
use Rattle.sat_core.specs.Assigning.{AreInOrder, IsNext}
use Rattle.sat_core.specs.Trails.{IsEntry, IsReason, IsTrail, IsTrueUnder, decisions_of, lits_of, under}
use Rattle.sat_core.proofs.LiteralLemmas.{negation-differs, negation-negation, same-variable, variable-negation, variable-within}
use Rattle.sat_core.proofs.PlaceLemmas.{left-place, by-pushes, Contains-at, place-of, Contains-before, Contains-filter, Contains-map, map-Contains, Each-nil, Each-push, Each-front, Each-at}

-- The literals.

pub lits_of-append : (xs ys : List Entry) → lits_of (xs ++ ys) ≡ lits_of xs ++ lits_of ys
lits_of-append xs ys = map-append (λ entry. entry.lit) xs ys

-- a literal that is true stands in an entry
pub entry-of : (entries : List Entry) (lit : Lit) → Contains (lits_of entries) lit → (entry : Entry) × Contains entries entry × (entry.lit ≡ lit)
entry-of entries lit c = map-Contains (λ entry. entry.lit) entries lit c

pub lit-of : (entries : List Entry) (entry : Entry) → Contains entries entry → Contains (lits_of entries) entry.lit
lit-of entries entry c = Contains-map (λ e. e.lit) entries entry c

-- The decisions.

pub decisions_of-append : (xs ys : List Entry) → decisions_of (xs ++ ys) ≡ max (decisions_of xs) (decisions_of ys)
decisions_of-append [] ys = omega arith
decisions_of-append (x ∷ xs) ys = omega (arith, decisions_of-append xs ys)

pub decisions_of-push : (xs : List Entry) (x : Entry) → decisions_of (xs ++ x ∷ []) ≡ max (decisions_of xs) x.decision
decisions_of-push xs x = omega (arith, decisions_of-append xs (x ∷ []))

-- no entry stands under a later decision than the last
pub decision-bound : (entries : List Entry) → All (λ entry. entry.decision ≤ decisions_of entries) entries
decision-bound [] = All-nil (λ entry. entry.decision ≤ decisions_of [])
decision-bound (e ∷ es) =
    All-cons (λ entry. entry.decision ≤ decisions_of (e ∷ es)) e es (omega arith)
    (All-weaker (λ entry. entry.decision ≤ decisions_of es) (λ entry. entry.decision ≤ decisions_of (e ∷ es)) (λ entry h. omega (arith, h)) es (decision-bound es))

pub decision-le : (entries : List Entry) (entry : Entry) → Contains entries entry → entry.decision ≤ decisions_of entries
decision-le entries entry c = All-contains (λ e. e.decision ≤ decisions_of entries) entries entry (decision-bound entries) c

pub decisions_of-take : (n : ℕ) (entries : List Entry) → decisions_of (take n entries) ≤ decisions_of entries
decisions_of-take n entries =
    let all : decisions_of (take n entries ++ drop n entries) ≡ decisions_of entries = ap decisions_of (take-append-drop n entries) in
    omega (arith, all, decisions_of-append (take n entries) (drop n entries))

-- and some entry stands under the last
pub decisions_of-least : (entries : List Entry) (decisions : ℕ) → All (λ entry. entry.decision ≤ decisions) entries → decisions_of entries ≤ decisions
decisions_of-least [] decisions all = omega arith
decisions_of-least (e ∷ es) decisions all =
    omega (
      arith,
      All-head (λ entry. entry.decision ≤ decisions) e es all,
      decisions_of-least es decisions (All-tail (λ entry. entry.decision ≤ decisions) e es all),
    )

-- What stands under the first decisions.

pub under-append : (decisions : ℕ) (xs ys : List Entry) → under decisions (xs ++ ys) ≡ under decisions xs ++ under decisions ys
under-append decisions xs ys = filter-append (λ entry. nat_le entry.decision decisions) xs ys

pub under-all : (decisions : ℕ) (entries : List Entry) → All (λ entry. entry.decision ≤ decisions) entries → under decisions entries ≡ entries
under-all decisions [] all = refl
under-all decisions (e ∷ es) all =
    rw (le-leb e.decision decisions (All-head (λ entry. entry.decision ≤ decisions) e es all)) (
    ap (λ zs. e ∷ zs) (under-all decisions es (All-tail (λ entry. entry.decision ≤ decisions) e es all))
    )

later-le : (decision decisions : ℕ) → decisions < decision → nat_le decision decisions ≡ false
later-le decision decisions lt = ⊎_elim (λ t. absurd (omega (arith, lt, leb-true decision decisions t))) (λ f. f) (cases_Bool (nat_le decision decisions))

pub under-none : (decisions : ℕ) (entries : List Entry) → All (λ entry. decisions < entry.decision) entries → under decisions entries ≡ []
under-none decisions [] all = refl
under-none decisions (e ∷ es) all =
    rw (later-le e.decision decisions (All-head (λ entry. decisions < entry.decision) e es all))
    (under-none decisions es (All-tail (λ entry. decisions < entry.decision) e es all))

-- where a trail is cut between the decisions
pub under-cut : (decisions : ℕ) (front more : List Entry) → decisions_of front ≤ decisions → All (λ entry. decisions < entry.decision) more → under decisions (front ++ more) ≡ front
under-cut decisions front more le all =
    under-append decisions front more
    ∙ ap (λ zs. zs ++ under decisions more) (under-all decisions front (All-weaker (λ entry. entry.decision ≤ decisions_of front) (λ entry. entry.decision ≤ decisions) (λ entry h. omega (arith, h, le)) front (decision-bound front)))
    ∙ ap (λ zs. front ++ zs) (under-none decisions more all)
    ∙ append-nil front

pub under-same : (decisions : ℕ) (entries : List Entry) → decisions_of entries ≤ decisions → under decisions entries ≡ entries
under-same decisions entries le = under-all decisions entries (λ k d lt. omega (arith, le, decision-bound entries k d lt))

pub Contains-under : (decisions : ℕ) (entries : List Entry) (entry : Entry) → Contains entries entry → entry.decision ≤ decisions → Contains (under decisions entries) entry
Contains-under decisions entries entry c le =
    All-contains (λ e. nat_le e.decision decisions ≡ true → Contains (under decisions entries) e) entries entry (Contains-filter (λ e. nat_le e.decision decisions) entries) c (le-leb entry.decision decisions le)

pub under-Contains : (decisions : ℕ) (entries : List Entry) (entry : Entry) → Contains (under decisions entries) entry → Contains entries entry × (entry.decision ≤ decisions)
under-Contains decisions entries entry c = (
  All-contains (Contains entries) (under decisions entries) entry (All-filter (λ e. nat_le e.decision decisions) (Contains entries) entries (All-contains_itself entries)) c,
  leb-true entry.decision decisions (All-contains (λ e. nat_le e.decision decisions ≡ true) (under decisions entries) entry (filter_passes (λ e. nat_le e.decision decisions) entries) c),
)

-- Under which decision a literal is true.

pub IsTrueUnder-append : (xs ys : List Entry) (lit : Lit) (decision : ℕ) → IsTrueUnder xs lit decision → IsTrueUnder (xs ++ ys) lit decision
IsTrueUnder-append xs ys lit decision t = (t.0, Contains-append_left xs ys t.0 t.1, t.2, t.3)

pub IsTrueUnder-push : (xs : List Entry) (x : Entry) → IsTrueUnder (xs ++ x ∷ []) x.lit x.decision
IsTrueUnder-push xs x = (x, Contains-push xs x, refl, refl)

pub IsTrueUnder-push_cases : (xs : List Entry) (x : Entry) (lit : Lit) (decision : ℕ) → IsTrueUnder (xs ++ x ∷ []) lit decision → IsTrueUnder xs lit decision ⊎ ((x.lit ≡ lit) × (x.decision ≡ decision))
IsTrueUnder-push_cases xs x lit decision t =
    ⊎_elim (λ c. inl (t.0, c, t.2, t.3)) (λ same. inr (ap (λ (e : Entry). e.lit) same ∙ t.2, ap (λ (e : Entry). e.decision) same ∙ t.3)) (Contains-push_cases xs x t.0 t.1)

-- what was true under a decision that is kept stays so, and nothing else is
pub IsTrueUnder-under : (decisions : ℕ) (entries : List Entry) (lit : Lit) (decision : ℕ) → IsTrueUnder entries lit decision → decision ≤ decisions → IsTrueUnder (under decisions entries) lit decision
IsTrueUnder-under decisions entries lit decision t le = (t.0, Contains-under decisions entries t.0 t.1 (omega (arith, t.3, le)), t.2, t.3)

pub under-IsTrueUnder : (decisions : ℕ) (entries : List Entry) (lit : Lit) (decision : ℕ) → IsTrueUnder (under decisions entries) lit decision → IsTrueUnder entries lit decision × (decision ≤ decisions)
under-IsTrueUnder decisions entries lit decision t =
    let both = under-Contains decisions entries t.0 t.1 in ((t.0, both.0, t.2, t.3), omega (arith, both.1, t.3))

pub true-from_under : (entries : List Entry) (lit : Lit) (decision : ℕ) → IsTrueUnder entries lit decision → Contains (lits_of entries) lit
true-from_under entries lit decision t = subst (Contains (lits_of entries)) t.2 (lit-of entries t.0 t.1)

pub under-from_true : (entries : List Entry) (lit : Lit) → Contains (lits_of entries) lit → (decision : ℕ) × IsTrueUnder entries lit decision × (decision ≤ decisions_of entries)
under-from_true entries lit c = let e = entry-of entries lit c in (e.0.decision, (e.0, e.1, e.2, refl), decision-le entries e.0 e.1)

pub IsTrueUnder-le : (entries : List Entry) (lit : Lit) (decision : ℕ) → IsTrueUnder entries lit decision → decision ≤ decisions_of entries
IsTrueUnder-le entries lit decision t = omega (arith, decision-le entries t.0 t.1, t.3)

-- Trails whose entries may stand behind those before them.

next-decision : (held : List (List Lit)) (before : List Entry) (lit : Lit) (decision : ℕ) (reason : Option ℕ) → IsReason held before lit decision reason
    → (decision ≡ decisions_of before) ⊎ (decision ≡ decisions_of before + 1)
next-decision held before lit decision None r = inr r
next-decision held before lit decision (Some number) r = inl r.0

-- a trail with reasons is one
pub in-order : (vars : ℕ) (held : List (List Lit)) (entries : List Entry) → IsTrail vars held entries → AreInOrder vars entries
in-order vars held entries trail place entry e =
    let h = trail place entry e in record {
      within = h.within;
      undecided = h.undecided;
      decision = next-decision held (take place entries) entry.lit entry.decision entry.reason h.reason;
    }

module _ (vars : ℕ) (held : List (List Lit)) where
  pub IsTrail-push : (xs : List Entry) (x : Entry) → IsTrail vars held xs → IsEntry vars held xs x → IsTrail vars held (xs ++ x ∷ [])
  IsTrail-push = Each-push (IsEntry vars held)

  pub IsTrail-front : (xs ys : List Entry) → IsTrail vars held (xs ++ ys) → IsTrail vars held xs
  IsTrail-front = Each-front (IsEntry vars held)

  pub IsTrail-at : (xs : List Entry) (x : Entry) (ys : List Entry) → IsTrail vars held (xs ++ x ∷ ys) → IsEntry vars held xs x
  IsTrail-at = Each-at (IsEntry vars held)

  reason-kept : (more : List (List Lit)) (before : List Entry) (lit : Lit) (decision : ℕ) (reason : Option ℕ) → IsReason held before lit decision reason → IsReason (held ++ more) before lit decision reason
  reason-kept more before lit decision None r = r
  reason-kept more before lit decision (Some number) r = (
    r.0,
    omega (arith, r.1, length-append held more),
    subst (λ clause. IsUnit (lits_of before) clause lit) (sym (get_or_append_left held more [] number r.1)) r.2,
  )

  -- with more clauses held a trail stays one
  pub IsTrail-held : (more : List (List Lit)) (entries : List Entry) → IsTrail vars held entries → IsTrail vars (held ++ more) entries
  IsTrail-held more entries trail place entry e =
      let h = trail place entry e in record {
        within = h.within;
        undecided = h.undecided;
        reason = reason-kept more (take place entries) entry.lit entry.decision entry.reason h.reason;
      }

le-or-lt : (a b : ℕ) → (a ≤ b) ⊎ (b < a)
le-or-lt a b = ⊎_elim inr inl (cases_lt b a)

nothing-distinct : IsDistinct eqb []
unfolding IsDistinct
nothing-distinct = tt

-- a trail cut between the decisions
record IsCut (decisions : ℕ) (entries : List Entry) : Type 0 where
  pub front : List Entry
  pub more : List Entry
  pub all : entries ≡ front ++ more
  pub least : decisions_of front ≤ decisions
  pub later : All (λ entry. decisions < entry.decision) more

module _ (vars : ℕ) where
  pub in-order-nil : AreInOrder vars []
  in-order-nil = Each-nil (IsNext vars)

  pub in-order-push : (xs : List Entry) (x : Entry) → AreInOrder vars xs → IsNext vars xs x → AreInOrder vars (xs ++ x ∷ [])
  in-order-push = Each-push (IsNext vars)

  pub in-order-front : (xs ys : List Entry) → AreInOrder vars (xs ++ ys) → AreInOrder vars xs
  in-order-front = Each-front (IsNext vars)

  pub in-order-at : (xs : List Entry) (x : Entry) (ys : List Entry) → AreInOrder vars (xs ++ x ∷ ys) → IsNext vars xs x
  in-order-at = Each-at (IsNext vars)

  -- an entry's decision is at least those of the entries before it
  pub before-le : (entries : List Entry) → AreInOrder vars entries → (place : ℕ) (entry : Entry) → slice_get entries place ≡ Some entry → decisions_of (take place entries) ≤ entry.decision
  before-le entries h place entry e = ⊎_elim (λ same. omega (arith, same)) (λ next. omega (arith, next)) (h place entry e).decision

  pub rises : (entries : List Entry) → AreInOrder vars entries → (i j : ℕ) (x y : Entry) → i ≤ j → slice_get entries i ≡ Some x → slice_get entries j ≡ Some y → x.decision ≤ y.decision
  rises entries h i j x y le at then =
      ⊎_elim (λ lt. omega (arith, before-le entries h j y then, decision-le (take j entries) x (Contains-before entries i j x lt at)))
      (λ ge. let same : x ≡ y = same_Some x y (sym at ∙ ap (slice_get entries) (le_antisymm le ge) ∙ then) in omega (arith, ap (λ (e : Entry). e.decision) same))
      (cases_lt i j)

  -- the last entry stands under the last decision
  pub last-decision : (xs : List Entry) (x : Entry) → AreInOrder vars (xs ++ x ∷ []) → x.decision ≡ decisions_of (xs ++ x ∷ [])
  last-decision xs x h = ⊎_elim (λ same. omega (arith, same, decisions_of-push xs x)) (λ next. omega (arith, next, decisions_of-push xs x)) (in-order-at xs x [] h).decision

  pub last-decision_at : (entries : List Entry) → AreInOrder vars entries → (entry : Entry) → slice_get entries (length entries - 1) ≡ Some entry → entry.decision ≡ decisions_of entries
  last-decision_at entries h entry e =
      le_antisymm (decision-le entries entry (Contains-at entries (length entries - 1) entry e))
      (decisions_of-least entries entry.decision (λ k d lt. rises entries h k (length entries - 1) (get_or entries k d) entry (omega (arith, lt)) (slice_get-get_or entries k d lt) e))

  -- entries at different places have different variables
  apart : (entries : List Entry) → AreInOrder vars entries → (i j : ℕ) (x y : Entry) → i < j → slice_get entries i ≡ Some x → slice_get entries j ≡ Some y → variable_of y.lit ≡ variable_of x.lit → ⊥
  apart entries h i j x y lt at then same =
      let stands : Contains (lits_of (take j entries)) x.lit = lit-of (take j entries) x (Contains-before entries i j x lt at) in
      ⊎_elim (λ e. (h j y then).undecided.0 (subst (Contains (lits_of (take j entries))) (sym e) stands))
      (λ e. (h j y then).undecided.1 (subst (Contains (lits_of (take j entries))) (sym (negation-negation x.lit) ∙ ap negation_of (sym e)) stands))
      (same-variable y.lit x.lit same)

  pub one-place : (entries : List Entry) → AreInOrder vars entries → (i j : ℕ) (x y : Entry) → slice_get entries i ≡ Some x → slice_get entries j ≡ Some y → variable_of x.lit ≡ variable_of y.lit → i ≡ j
  one-place entries h i j x y at then same =
      ⊎_elim (λ lt. absurd (apart entries h i j x y lt at then (sym same)))
      (λ ge. ⊎_elim (λ lt. absurd (apart entries h j i y x lt then at same)) (λ le. le_antisymm le ge) (cases_lt j i))
      (cases_lt i j)

  pub one-entry : (entries : List Entry) → AreInOrder vars entries → (x y : Entry) → Contains entries x → Contains entries y → variable_of x.lit ≡ variable_of y.lit → x ≡ y
  one-entry entries h x y a b same =
      let i = place-of entries x a in
      let j = place-of entries y b in
      same_Some x y (sym i.1 ∙ ap (slice_get entries) (one-place entries h i.0 j.0 x y i.1 j.1 same) ∙ j.1)

  -- a literal is true under one decision
  pub one-decision : (entries : List Entry) → AreInOrder vars entries → (lit : Lit) (a b : ℕ) → IsTrueUnder entries lit a → IsTrueUnder entries lit b → a ≡ b
  one-decision entries h lit a b s t =
      let same : s.0 ≡ t.0 = one-entry entries h s.0 t.0 s.1 t.1 (ap variable_of (s.2 ∙ sym t.2)) in
      sym s.3 ∙ ap (λ (e : Entry). e.decision) same ∙ t.3

  -- and never false at once
  pub never-both : (entries : List Entry) → AreInOrder vars entries → (lit : Lit) → Contains (lits_of entries) lit → IsFalse (lits_of entries) lit → ⊥
  never-both entries h lit one other =
      let x = entry-of entries lit one in
      let y = entry-of entries (negation_of lit) other in
      let same : x.0 ≡ y.0 = one-entry entries h x.0 y.0 x.1 y.1 (ap variable_of x.2 ∙ sym (variable-negation lit) ∙ sym (ap variable_of y.2)) in
      negation-differs lit (sym x.2 ∙ ap (λ (e : Entry). e.lit) same ∙ y.2)

  variables-apart : (xs : List Entry) (x : Entry) → IsUndecided (lits_of xs) x.lit → list_any (eqb (variable_of x.lit)) (map (λ e. variable_of e.lit) xs) ≡ false
  variables-apart xs x u =
      ⊎_elim
      (λ t.
      let r = map-Contains (λ (e : Entry). variable_of e.lit) xs (variable_of x.lit) (Contains-from_any (λ a b. eqb-true a b) (variable_of x.lit) (map (λ e. variable_of e.lit) xs) t) in
      let stands : Contains (lits_of xs) r.0.lit = lit-of xs r.0 r.1 in
      absurd (
      ⊎_elim (λ e. u.0 (subst (Contains (lits_of xs)) e stands)) (λ e. u.1 (subst (Contains (lits_of xs)) e stands)) (same-variable r.0.lit x.lit r.2)
      ))
      (λ f. f)
      (cases_Bool (list_any (eqb (variable_of x.lit)) (map (λ e. variable_of e.lit) xs)))

  variables-distinct : (entries : List Entry) → AreInOrder vars entries → IsDistinct eqb (map (λ e. variable_of e.lit) entries)
  variables-distinct =
      by-pushes (λ xs. AreInOrder vars xs → IsDistinct eqb (map (λ e. variable_of e.lit) xs))
      (λ xs x before h.
      subst (IsDistinct eqb) (sym (map-append (λ (e : Entry). variable_of e.lit) xs (x ∷ [])))
      (IsDistinct-push nat_eq_equiv (map (λ e. variable_of e.lit) xs) (variable_of x.lit) (before (in-order-front xs (x ∷ []) h)) (variables-apart xs x (in-order-at xs x [] h).undecided)))
      (λ _. nothing-distinct)

  -- there are at most as many entries as variables
  pub entries-few : (entries : List Entry) → AreInOrder vars entries → length entries ≤ vars
  entries-few entries h =
      let few = length-le_from_distinct_below (map (λ e. variable_of e.lit) entries) vars (variables-distinct entries h)
      (λ q t.
      let r = map-Contains (λ (e : Entry). variable_of e.lit) entries q (Contains-from_any (λ a b. eqb-true a b) q (map (λ e. variable_of e.lit) entries) t) in
      let at = place-of entries r.0 r.1 in
      subst (λ n. n < vars) r.2 (variable-within vars r.0.lit (h at.0 r.0 at.1).within)) in
      rw length-map at few

  -- and at most as many decisions as entries
  pub decisions-few : (entries : List Entry) → AreInOrder vars entries → decisions_of entries ≤ length entries
  decisions-few =
      by-pushes (λ xs. AreInOrder vars xs → decisions_of xs ≤ length xs)
      (λ xs x before h.
      let le = before (in-order-front xs (x ∷ []) h) in
      ⊎_elim (λ same. omega (arith, le, same, decisions_of-push xs x, length-append xs (x ∷ []))) (λ next. omega (arith, le, next, decisions_of-push xs x, length-append xs (x ∷ []))) (in-order-at xs x [] h).decision)
      (λ _. omega arith)

  -- What stands under the first decisions stands first.

  cut : (decisions : ℕ) (entries : List Entry) → AreInOrder vars entries → IsCut decisions entries
  cut decisions =
      by-pushes (λ xs. AreInOrder vars xs → IsCut decisions xs)
      (λ xs x before h.
      let c = before (in-order-front xs (x ∷ []) h) in
      ⊎_elim
      (λ le. record {
        front = xs ++ x ∷ [];
        more = [];
        all = sym (append-nil (xs ++ x ∷ []));
        least = omega (arith, le, last-decision xs x h);
        later = All-nil (λ entry. decisions < entry.decision);
      })
      (λ lt. record {
        front = c.front;
        more = c.more ++ x ∷ [];
        all = ap (λ zs. zs ++ x ∷ []) c.all ∙ append_assoc c.front c.more (x ∷ []);
        least = c.least;
        later = All-push (λ entry. decisions < entry.decision) c.more x c.later lt;
      })
      (le-or-lt x.decision decisions))
      (λ _. record {
        front = [];
        more = [];
        all = refl;
        least = omega arith;
        later = All-nil (λ entry. decisions < entry.decision);
      })

  under-is : (decisions : ℕ) (entries : List Entry) (c : IsCut decisions entries) → under decisions entries ≡ c.front
  under-is decisions entries c = ap (under decisions) c.all ∙ under-cut decisions c.front c.more c.least c.later

  pub under-first : (decisions : ℕ) (entries : List Entry) → AreInOrder vars entries → (more : List Entry) × (entries ≡ under decisions entries ++ more) × All (λ entry. decisions < entry.decision) more
  under-first decisions entries h =
      let c = cut decisions entries h in (c.more, c.all ∙ ap (λ zs. zs ++ c.more) (sym (under-is decisions entries c)), c.later)

  pub under-place : (decisions : ℕ) (entries : List Entry) → AreInOrder vars entries → (place : ℕ) (entry : Entry) → slice_get (under decisions entries) place ≡ Some entry → slice_get entries place ≡ Some entry
  under-place decisions entries h place entry e =
      let f = under-first decisions entries h in subst (λ zs. slice_get zs place ≡ Some entry) (sym f.1) (left-place (under decisions entries) f.0 place entry e)

  pub IsTrail-under : (held : List (List Lit)) (decisions : ℕ) (entries : List Entry) → IsTrail vars held entries → IsTrail vars held (under decisions entries)
  IsTrail-under held decisions entries trail =
      let f = under-first decisions entries (in-order vars held entries trail) in
      IsTrail-front vars held (under decisions entries) f.0 (subst (IsTrail vars held) f.1 trail)

  pub under-in-order : (decisions : ℕ) (entries : List Entry) → AreInOrder vars entries → AreInOrder vars (under decisions entries)
  under-in-order decisions entries h =
      let c = cut decisions entries h in
      subst (AreInOrder vars) (sym (under-is decisions entries c)) (in-order-front c.front c.more (subst (AreInOrder vars) c.all h))

  -- so many decisions stand then, if so many stood before
  pub decisions_of-under : (decisions : ℕ) (entries : List Entry) → AreInOrder vars entries → decisions ≤ decisions_of entries → decisions_of (under decisions entries) ≡ decisions
  decisions_of-under decisions entries h le =
      let c = cut decisions entries h in
      ap decisions_of (under-is decisions entries c) ∙ reached decisions c.front c.more (subst (AreInOrder vars) c.all h) c.least c.later (subst (λ zs. decisions ≤ decisions_of zs) c.all le)
    where
      reached : (decisions : ℕ) (front more : List Entry) → AreInOrder vars (front ++ more) → decisions_of front ≤ decisions → All (λ entry. decisions < entry.decision) more → decisions ≤ decisions_of (front ++ more) → decisions_of front ≡ decisions
      reached decisions front [] h least later le = omega (arith, least, le, decisions_of-append front [])
      reached decisions front (x ∷ xs) h least later le =
          ⊎_elim (λ same. omega (arith, least, same, All-head (λ entry. decisions < entry.decision) x xs later)) (λ next. omega (arith, least, next, All-head (λ entry. decisions < entry.decision) x xs later)) (in-order-at front x xs h).decision
