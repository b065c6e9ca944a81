-- Whether a chain of naming leads from a name to another: if one does, then one without repetition, which has no more steps than there are names.
use Rattle.std.proofs.Common.{◌≡◌, ◌≢◌, ◌⊎◌, ℕ, zero, suc, ◌+◌, ◌<◌, ◌≤◌, true, false, List, [], ◌∷◌, length, slice_get, Option, Some, None, All, Contains, eqb, refl, sym, ap, subst, ◌∙◌, inl, inr, ⊎_elim, arith}
use Rattle.std.specs.Prelude.{IsSomeAnd}
use Rattle.std.specs.List.{AllByRecursion, IsDistinct, list_any}
use Rattle.std.proofs.lemmas.Bool.{cases_eq, cases_lt, eqb-true, ne_eqb, or_cases, true≢false}
use Rattle.std.proofs.lemmas.List.Elements.{All-contains}
use Rattle.std.proofs.lemmas.Map.Steps.{length-le_from_distinct_below}
use Rattle.std.proofs.lemmas.Option.{slice_get_within}
use Rattle.vkb_bytes.specs.First.{IsFirst}
use Rattle.vkb_formula.specs.declared.name_table.NameId.{NameId}
use Rattle.reg_registry.specs.declared.registry.Row.{Row}
use Rattle.reg_registry.specs.Laws.{AreWithin, LeadsOrNot, HasACircleOrNot}
use Rattle.reg_registry.specs.Naming.{IsCircle, IsOnCircle, LeadBack, Leads, Names, NoneTwice, step, more}
use Rattle.reg_registry.specs.Rows.{id_at}
use Rattle.reg_registry.proofs.PlacedLemmas.{Contains-at, Contains-cases, Contains-first, Contains-rest}

-- one of a list passes, or none does
module _ {X : Type 0} (P : X → Type 0) (decide : (x : X) → P x ⊎ (P x → ⊥)) where
  pub some-or-none : (xs : List X) → ((x : X) × Contains xs x × P x) ⊎ ((x : X) → Contains xs x → P x → ⊥)
  some-or-none [] = inr (λ x c p. omega (arith, c.1))
  some-or-none (x ∷ xs) =
      ⊎_elim (λ p. inl (x, Contains-first x xs, p))
      (λ n. ⊎_elim (λ (s : (y : X) × Contains xs y × P y). inl (s.0, Contains-rest x xs s.0 s.1, s.2))
      (λ none. inr (λ y c p. ⊎_elim (λ (e : x ≡ y). n (subst P (sym e) p)) (λ r. none y r p) (Contains-cases x xs y c)))
      (some-or-none xs))
      (decide x)

-- some name passes that is named there, or none does
module _ (P : ℕ → Type 0) (decide : (n : ℕ) → P n ⊎ (P n → ⊥)) where
  pub named-or-none : (o : Option Row) → ((next : ℕ) × IsSomeAnd o (λ row. Contains row.named (id_at next)) × P next) ⊎ ((next : ℕ) → IsSomeAnd o (λ row. Contains row.named (id_at next)) → P next → ⊥)
  named-or-none None = inr (λ next named p. named)
  named-or-none (Some row) =
      ⊎_elim (λ (s : (id : NameId) × Contains row.named id × P id.0). inl (s.0.0, s.1, s.2)) (λ none. inr (λ next c p. none (id_at next) c p))
      (some-or-none (λ (id : NameId). P id.0) (λ id. decide id.0) row.named)

below-or-last : (place n : ℕ) → place < suc n → (place < n) ⊎ (place ≡ n)
below-or-last place n below = ⊎_elim (λ l. inl l) (λ r. inr (omega (arith, below, r))) (cases_lt place n)

apart : (x : ℕ) (xs : List ℕ) → (Contains xs x → ⊥) → AllByRecursion (λ y. eqb x y ≡ false) xs
apart x [] n = tt
apart x (y ∷ ys) n = (
  ne_eqb x y (λ (e : x ≡ y). n (subst (λ (z : ℕ). Contains (y ∷ ys) z) (sym e) (Contains-first y ys))),
  apart x ys (λ c. n (Contains-rest y ys x c)),
)

distinct : (xs : List ℕ) → NoneTwice xs → IsDistinct eqb xs
unfolding IsDistinct
distinct [] o = tt
distinct (x ∷ xs) o = (apart x xs o.0, distinct xs o.1)

found : (xs : List ℕ) (x : ℕ) → list_any (eqb x) xs ≡ true → Contains xs x
found [] x e = absurd (true≢false (sym e))
found (y ∷ ys) x e =
    ⊎_elim (λ (s : eqb x y ≡ true). subst (λ (z : ℕ). Contains (y ∷ ys) z) (sym (eqb-true x y s)) (Contains-first y ys))
    (λ r. Contains-rest y ys x (found ys x r)) (or_cases (eqb x y) (list_any (eqb x) ys) e)

-- different numbers below an end are no more than it
few-below : (xs : List ℕ) (end : ℕ) → NoneTwice xs → ((x : ℕ) → Contains xs x → x < end) → length xs ≤ end
few-below xs end o h = length-le_from_distinct_below xs end (distinct xs o) (λ q e. h q (found xs q e))

module _ (rows : List Row) where
  -- a name names another, or it doesn't
  pub names-or-not : (place other : ℕ) → Names rows place other ⊎ (Names rows place other → ⊥)
  names-or-not place other =
      ⊎_elim (λ (s : (next : ℕ) × Names rows place next × (next ≡ other)). inl (subst (Names rows place) s.2 s.1)) (λ none. inr (λ n. none other n refl))
      (named-or-none (λ n. n ≡ other) (λ n. cases_eq n other) (slice_get rows place))

  -- a chain of so many steps at most leads from a name to another
  abbrev Within : ℕ → ℕ → ℕ → Type 0
  Within zero place other = ⊥
  Within (suc n) place other = Names rows place other ⊎ ((next : ℕ) × Names rows place next × Within n next other)

  within-or-not : (n place other : ℕ) → Within n place other ⊎ (Within n place other → ⊥)
  within-or-not zero place other = inr (λ w. w)
  within-or-not (suc n) place other =
      ⊎_elim (λ named. inl (inl named))
      (λ not_named. ⊎_elim (λ s. inl (inr s)) (λ none. inr (⊎_elim not_named (λ s. none s.0 s.1 s.2)))
      (named-or-none (λ next. Within n next other) (λ next. within-or-not n next other) (slice_get rows place)))
      (names-or-not place other)

  within-leads : (n place other : ℕ) → Within n place other → Leads rows place other
  within-leads zero place other w = absurd w
  within-leads (suc n) place other (inl named) = step named
  within-leads (suc n) place other (inr s) = more s.1 (within-leads n s.0 other s.2)

  chain-within : (n place : ℕ) (others : List ℕ) (last : ℕ) → length others < n → LeadBack rows place others last → Within n place last
  chain-within zero place others last short lead = absurd (omega (arith, short))
  chain-within (suc n) place [] last short lead = inl lead
  chain-within (suc n) place (next ∷ others) last short lead = inr (next, lead.0, chain-within n next others last (omega (arith, short)) lead.1)

  -- a chain without repetition, behind its first name
  record IsStraight (place last : ℕ) : Type 0 where
    others : List ℕ
    differ : NoneTwice (place ∷ others)
    lead : LeadBack rows place others last

  -- what of a chain stands from a name on
  cut-chain : (place : ℕ) (others : List ℕ) (last name : ℕ) → NoneTwice (place ∷ others) → LeadBack rows place others last → Contains (place ∷ others) name → IsStraight name last
  cut-chain place [] last name differ lead c =
      ⊎_elim (λ (e : place ≡ name). subst (λ n. IsStraight n last) e (record { others = []; differ = differ; lead = lead })) (λ r. absurd (omega (arith, r.1))) (Contains-cases place [] name c)
  cut-chain place (next ∷ others) last name differ lead c =
      ⊎_elim (λ (e : place ≡ name). subst (λ n. IsStraight n last) e (record { others = next ∷ others; differ = differ; lead = lead }))
      (λ r. cut-chain next others last name differ.1 lead.1 r) (Contains-cases place (next ∷ others) name c)

  straight : (place last : ℕ) → Leads rows place last → IsStraight place last
  straight place last (step named) = record { others = []; differ = ((λ c. omega (arith, c.1)), tt); lead = named }
  straight place last (more {next = next} named leads) =
      let s = straight next last leads in
      ⊎_elim (λ (f : (x : ℕ) × Contains (next ∷ s.others) x × (x ≡ place)). cut-chain next s.others last place s.differ s.lead (subst (Contains (next ∷ s.others)) f.2 f.1))
      (λ none. record { others = next ∷ s.others; differ = ((λ c. none place c refl), s.differ); lead = (named, s.lead) })
      (some-or-none (λ x. x ≡ place) (λ x. cases_eq x place) (next ∷ s.others))

  module _ (there : AreWithin rows) where
    named-there : (o : Option Row) (place other : ℕ) → slice_get rows place ≡ o → IsSomeAnd o (λ row. Contains row.named (id_at other)) → (place < length rows) × (other < length rows)
    named-there None place other e named = absurd named
    named-there (Some row) place other e named =
        let all : All (λ (id : NameId). id.0 < length rows) row.named = All-contains (λ (row : Row). All (λ (id : NameId). id.0 < length rows) row.named) rows row there (Contains-at rows place row e) in
        (slice_get_within rows place row e, All-contains (λ (id : NameId). id.0 < length rows) row.named (id_at other) all named)

    chain-there : (place : ℕ) (others : List ℕ) (last : ℕ) → LeadBack rows place others last → (name : ℕ) → Contains (place ∷ others) name → name < length rows
    chain-there place [] last lead name c =
        ⊎_elim (λ (e : place ≡ name). subst (λ n. n < length rows) e (named-there (slice_get rows place) place last refl lead).0) (λ r. absurd (omega (arith, r.1))) (Contains-cases place [] name c)
    chain-there place (next ∷ others) last lead name c =
        ⊎_elim (λ (e : place ≡ name). subst (λ n. n < length rows) e (named-there (slice_get rows place) place next refl lead.0).0) (λ r. chain-there next others last lead.1 name r)
        (Contains-cases place (next ∷ others) name c)

    leads-within : (place last : ℕ) → Leads rows place last → Within (length rows) place last
    leads-within place last leads =
        let s = straight place last leads in
        let few : length (place ∷ s.others) ≤ length rows = few-below (place ∷ s.others) (length rows) s.differ (chain-there place s.others last s.lead) in
        chain-within (length rows) place s.others last (omega (arith, few)) s.lead

    pub leads-or-not : (place last : ℕ) → Leads rows place last ⊎ (Leads rows place last → ⊥)
    leads-or-not place last =
        ⊎_elim (λ w. inl (within-leads (length rows) place last w)) (λ n. inr (λ leads. n (leads-within place last leads))) (within-or-not (length rows) place last)

    leads-from : (place last : ℕ) → Leads rows place last → place < length rows
    leads-from place last (step named) = (named-there (slice_get rows place) place last refl named).0
    leads-from place last (more {next = next} named leads) = (named-there (slice_get rows place) place next refl named).0

    -- the first of so many places that lies on a circle, or none does
    first-circle : (n : ℕ) → ((place : ℕ) × IsFirst (IsOnCircle rows) place) ⊎ ((place : ℕ) → place < n → IsOnCircle rows place → ⊥)
    first-circle zero = inr (λ place below on. omega (arith, below))
    first-circle (suc n) =
        ⊎_elim (λ f. inl f)
        (λ none. ⊎_elim (λ on. inl (n, record { here = on; first = none }))
        (λ not_on. inr (λ place below on. ⊎_elim (λ l. none place l on) (λ (e : place ≡ n). not_on (subst (IsOnCircle rows) e on)) (below-or-last place n below)))
        (leads-or-not n n))
        (first-circle n)

    pub circle-or-not : ((first : ℕ) × (others : List ℕ) × IsCircle rows first others) ⊎ ((place : ℕ) → IsOnCircle rows place → ⊥)
    circle-or-not =
        ⊎_elim (λ f. let s = straight f.0 f.0 f.1.here in inl (f.0, s.others, record { differ = s.differ; lead = s.lead; is_first = f.1 }))
        (λ none. inr (λ place on. none place (leads-from place place on) on))
        (first-circle (length rows))

pub each-leads-or-not : LeadsOrNot
each-leads-or-not rows place other there = leads-or-not rows there place other

pub each-has-a-circle-or-not : HasACircleOrNot
each-has-a-circle-or-not rows there = circle-or-not rows there
