-- The order of a closed set has each of its names once, behind all that it names.
use Rattle.std.proofs.Common.{◌≡◌, ℕ, zero, suc, ◌+◌, ◌-◌, ◌<◌, ◌≤◌, ◌⊎◌, inl, inr, ⊎_elim, Bool, true, List, [], ◌∷◌, length, take, slice_get, Some, Contains, refl, subst, arith}
use Rattle.std.proofs.lemmas.Bool.{cases_order}
use Rattle.std.proofs.lemmas.Option.{slice_get_within}
use Rattle.vkb_formula.specs.declared.name_table.NameId.{NameId}
use Rattle.reg_registry.specs.declared.registry.Row.{Row}
use Rattle.reg_registry.specs.Naming.{IsOnCircle, Leads, step, more, Names, NoneTwice}
use Rattle.reg_registry.specs.Rows.{Rows, id_at}
use Rattle.reg_closure.proofs.PlacedLemmas.{Contains-at, Contains-cases, Contains-first, Contains-rest, in-names, names-in, place-of, place-take, take-place}
use Rattle.reg_closure.specs.Closure.{IsIn}
use Rattle.reg_closure.specs.Existence.{OrdersHaveAll}
use Rattle.reg_closure.specs.Laws.{OrdersAreWhole}
use Rattle.reg_closure.specs.Orders.{HasEachOnce, IsClosedSet, IsOrder, StandBehind}
use Rattle.reg_closure.specs.Waiting.{ArePlaced}
use Rattle.reg_closure.proofs.NumberLemmas.{StandOnce, few-below, has-or-not, none-twice}

-- the one list has all these names, or one that it hasn't is told
pub all-or-one : (xs : List ℕ) (ids : List NameId)
    → ((other : ℕ) → Contains ids (id_at other) → Contains xs other) ⊎ ((other : ℕ) × Contains ids (id_at other) × (Contains xs other → ⊥))
all-or-one xs [] = inl (λ other c. absurd (omega (arith, c.1)))
all-or-one xs (id ∷ ids) =
    ⊎_elim
    (λ h. ⊎_elim
    (λ r. inl (λ other c. ⊎_elim (λ (e : id ≡ id_at other). subst (λ (i : NameId). Contains xs i.0) e h)
    (λ c2. r other c2) (Contains-cases id ids (id_at other) c)))
    (λ o. inr (o.0, Contains-rest id ids (id_at o.0) o.1, o.2))
    (all-or-one xs ids))
    (λ n. inr (id.0, Contains-first id ids, n))
    (has-or-not xs id.0)

pub leads-on : (rows : List Row) {a b c : ℕ} → Leads rows a b → Names rows b c → Leads rows a c
leads-on rows (step n) m = more n (step m)
leads-on rows (more n l) m = more n (leads-on rows l m)

module _ (rows : List Row) (set : List Bool) (placed : List ℕ) (each : ArePlaced rows set placed) where
  later : (at other place : ℕ) → at < other → slice_get placed at ≡ Some place → slice_get placed other ≡ Some place → ⊥
  later at other place l a b = (each other place b).here.new (Contains-at (take other placed) at place (place-take placed other at place l a))

  pub placed-once : StandOnce placed
  placed-once at other place a b =
      ⊎_elim (λ (e : at ≡ other). e) (λ o. ⊎_elim (λ (l : at < other). absurd (later at other place l a b))
      (λ (l : other < at). absurd (later other at place l b a)) o) (cases_order at other)

  pub placed-only : (place : ℕ) → Contains placed place → IsIn set place
  placed-only place c = let p = place-of placed place c in (each p.0 place p.1).here.one

  pub placed-behind : StandBehind rows placed
  placed-behind at place other a n =
      let p = place-of (take at placed) other ((each at place a).here.after other n) in
      let q = take-place placed at p.0 other p.1 in (p.0, q.0, q.1)

  pub placed-few : length placed ≤ length set
  placed-few = few-below placed (length set) (none-twice placed placed-once) (λ x c. slice_get_within set x true (placed-only x c))

pub row-at : (rows : List Row) (place : ℕ) → place < length rows → (row : Row) × (slice_get rows place ≡ Some row)
row-at [] place l = absurd (omega (arith, l))
row-at (row ∷ rows) zero l = (row, refl)
row-at (row ∷ rows) (suc place) l = row-at rows place (omega (arith, l))

module _ (r : Rows) (set : List Bool) (order : List ℕ) (rows_count : length r.rows ≡ length r.names) (no_circle : (place : ℕ) → IsOnCircle r.rows place → ⊥) (count : length set ≡ length r.names) (closed : IsClosedSet r.rows set)
    (o : IsOrder r.rows set order) where
  -- what isn't placed names something that isn't
  next : (place : ℕ) → IsIn set place → (Contains order place → ⊥) → (other : ℕ) × Names r.rows place other × (Contains order other → ⊥)
  next place i n =
      let l : place < length r.rows = omega (arith, slice_get_within set place true i, count, rows_count) in
      let at = row-at r.rows place l in
      ⊎_elim
      (λ all. absurd (o.whole place (record { one = i; new = n; after = λ other m. all other (names-in r.rows place at.0 at.1 other m) })))
      (λ one. (one.0, in-names r.rows place at.0 at.1 one.0 one.1, one.2))
      (all-or-one order at.0.named)

  module _ (chain : List ℕ) (place : ℕ) (once : NoneTwice (place ∷ chain)) (below : (x : ℕ) → Contains (place ∷ chain) x → x < length set)
      (lead : (x : ℕ) → Contains chain x → Leads r.rows x place) (i : IsIn set place) (n : Contains order place → ⊥) where
    after : (other : ℕ) × Names r.rows place other × (Contains order other → ⊥)
    after = next place i n

    inside : IsIn set after.0
    inside = closed place after.0 i after.1

    lead-on : (x : ℕ) → Contains (place ∷ chain) x → Leads r.rows x after.0
    lead-on x c =
        ⊎_elim (λ (e : place ≡ x). subst (λ (z : ℕ). Leads r.rows z after.0) e (step after.1))
        (λ d. leads-on r.rows (lead x d) after.1) (Contains-cases place chain x c)

    once-on : NoneTwice (after.0 ∷ place ∷ chain)
    once-on = ((λ c. no_circle after.0 (lead-on after.0 c)), once)

    below-on : (x : ℕ) → Contains (after.0 ∷ place ∷ chain) x → x < length set
    below-on x c =
        ⊎_elim (λ (e : after.0 ≡ x). subst (λ (z : ℕ). z < length set) e (slice_get_within set after.0 true inside))
        (λ d. below x d) (Contains-cases after.0 (place ∷ chain) x c)

  -- Names that differ and lead to each other, up to one that isn't placed: there are no more than the set has places, and yet there is always one more.
  never : (fuel : ℕ) (chain : List ℕ) (place : ℕ) → length (place ∷ chain) + fuel ≡ length set → NoneTwice (place ∷ chain)
      → ((x : ℕ) → Contains (place ∷ chain) x → x < length set) → ((x : ℕ) → Contains chain x → Leads r.rows x place)
      → IsIn set place → (Contains order place → ⊥) → ⊥
  never zero chain place l once below lead i n =
      let m = few-below ((after chain place once below lead i n).0 ∷ place ∷ chain) (length set) (once-on chain place once below lead i n) (below-on chain place once below lead i n) in
      omega (arith, m, l)
  never (suc fuel) chain place l once below lead i n =
      never fuel (place ∷ chain) (after chain place once below lead i n).0 (omega (arith, l)) (once-on chain place once below lead i n)
      (below-on chain place once below lead i n) (lead-on chain place once below lead i n) (inside chain place once below lead i n) (after chain place once below lead i n).2

  all-placed : (place : ℕ) → IsIn set place → Contains order place
  all-placed place i =
      ⊎_elim (λ c. c)
      (λ n. absurd (never (length set - 1) [] place (let l = slice_get_within set place true i in omega (arith, l)) ((λ c. omega (arith, c.1)), tt)
      (λ x c. ⊎_elim (λ (e : place ≡ x). subst (λ (z : ℕ). z < length set) e (slice_get_within set place true i))
      (λ d. absurd (omega (arith, d.1))) (Contains-cases place [] x c))
      (λ x c. absurd (omega (arith, c.1))) i n))
      (has-or-not order place)

  whole : HasEachOnce set order × StandBehind r.rows order
  whole = (
    record { only = placed-only r.rows set order o.each; all = all-placed; once = placed-once r.rows set order o.each },
    placed-behind r.rows set order o.each,
  )

pub orders-whole : OrdersAreWhole
orders-whole r set order sound count closed o = whole r set order sound.rows_count sound.no_circle count closed o

pub orders-have-all : OrdersHaveAll
orders-have-all r set order rows_count no_circle count closed o = whole r set order rows_count no_circle count closed o
