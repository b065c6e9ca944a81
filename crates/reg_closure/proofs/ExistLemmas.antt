-- Each choice has a closure, and each set an order: the first name that may stand is placed, as long as one may.
use Rattle.std.proofs.Common.{◌≡◌, ◌⊎◌, ℕ, zero, suc, ◌+◌, ◌<◌, ◌≤◌, inl, inr, ⊎_elim, Bool, true, false, List, [], ◌∷◌, ◌++◌, length, take, slice_get, Option, Some, None, All, Contains, refl, sym, ap, subst, ◌∙◌, arith}
use Rattle.std.specs.Option.{IsSomeAnd}
use Rattle.std.proofs.Math.Seq.{take-append_seam}
use Rattle.std.proofs.lemmas.Bool.{cases_lt, true≢false}
use Rattle.std.proofs.lemmas.List.{length-append, take-append-le}
use Rattle.std.proofs.lemmas.List.Elements.{All-contains}
use Rattle.std.proofs.lemmas.Option.{get_or_from_slice_get, none-some, same_Some, slice_get_within}
use Rattle.vkb_bytes.specs.First.{IsFirst}
use Rattle.vkb_formula.specs.declared.name_table.NameId.{NameId}
use Rattle.reg_registry.specs.Laws.{AreWithin}
use Rattle.reg_registry.specs.Naming.{Names}
use Rattle.reg_registry.specs.Rows.{Rows, id_at}
use Rattle.reg_registry.specs.declared.registry.Row.{Row}
use Rattle.reg_closure.specs.Closure.{IsIn, IsInClosure, named, root}
use Rattle.reg_closure.specs.Existence.{ClosuresAreThere, OrdersAreThere}
use Rattle.reg_closure.specs.Laws.{InClosureOrNot}
use Rattle.reg_closure.specs.Orders.{IsOrder, MayStand}
use Rattle.reg_closure.specs.Waiting.{ArePlaced}
use Rattle.reg_closure.proofs.NumberLemmas.{has-or-not}
use Rattle.reg_closure.proofs.PlacedLemmas.{in-names, names-in, push-place}
use Rattle.reg_closure.proofs.WholeLemmas.{all-or-one, placed-few}

-- it holds or it doesn't
abbrev Decided : Type 0 → Type 0
Decided P = P ⊎ (P → ⊥)

-- where there is no row nothing is named
no-row : (rows : List Row) (place : ℕ) → slice_get rows place ≡ None → (other : ℕ) → Names rows place other → ⊥
no-row rows place none other names = subst (λ (o : Option Row). IsSomeAnd o (λ r. Contains r.named (id_at other))) none names

-- ---- sets by what they tell

set-of : (P : ℕ → Type 0) → ((k : ℕ) → Decided (P k)) → (n : ℕ) → (set : List Bool) × (length set ≡ n) × ((k : ℕ) → IsIn set k → P k) × ((k : ℕ) → k < n → P k → IsIn set k)
set-of P decide zero = ([], refl, (λ k i. absurd (none-some true i)), (λ k below. absurd (omega (arith, below))))
set-of P decide (suc n) =
    let rest = set-of (λ k. P (suc k)) (λ k. decide (suc k)) n in
    ⊎_elim
    (λ (here : P 0). (true ∷ rest.0, ap suc rest.1, only-here P rest.0 here rest.2, all-here P n rest.0 rest.3))
    (λ (none : P 0 → ⊥). (false ∷ rest.0, ap suc rest.1, only-none P rest.0 rest.2, all-none P n rest.0 none rest.3))
    (decide 0)
  where
    only-here : (P : ℕ → Type 0) (set : List Bool) → P 0 → ((k : ℕ) → IsIn set k → P (suc k)) → (k : ℕ) → IsIn (true ∷ set) k → P k
    only-here P set here only zero i = here
    only-here P set here only (suc k) i = only k i

    all-here : (P : ℕ → Type 0) (n : ℕ) (set : List Bool) → ((k : ℕ) → k < n → P (suc k) → IsIn set k) → (k : ℕ) → k < suc n → P k → IsIn (true ∷ set) k
    all-here P n set all zero below holds = refl
    all-here P n set all (suc k) below holds = all k (omega (arith, below)) holds

    only-none : (P : ℕ → Type 0) (set : List Bool) → ((k : ℕ) → IsIn set k → P (suc k)) → (k : ℕ) → IsIn (false ∷ set) k → P k
    only-none P set only zero i = absurd (true≢false (sym (same_Some false true i)))
    only-none P set only (suc k) i = only k i

    all-none : (P : ℕ → Type 0) (n : ℕ) (set : List Bool) → (P 0 → ⊥) → ((k : ℕ) → k < n → P (suc k) → IsIn set k) → (k : ℕ) → k < suc n → P k → IsIn (false ∷ set) k
    all-none P n set none all zero below holds = absurd (none holds)
    all-none P n set none all (suc k) below holds = all k (omega (arith, below)) holds

-- what a row names is there
named-below : (rows : List Row) → AreWithin rows → (place other : ℕ) → Names rows place other → other < length rows
named-below rows within place other names = at-row (slice_get rows place) refl
  where
    at-row : (o : Option Row) → slice_get rows place ≡ o → other < length rows
    at-row None e = absurd (no-row rows place e other names)
    at-row (Some row) e =
        let below = slice_get_within rows place row e in
        let ids = subst (λ (x : Row). All (λ (id : NameId). id.0 < length rows) x.named) (get_or_from_slice_get rows place row row e) (within place row below) in
        All-contains (λ (id : NameId). id.0 < length rows) row.named (id_at other) ids (names-in rows place row e other names)

named-within : (rows : List Row) (n : ℕ) → length rows ≡ n → AreWithin rows → (place other : ℕ) → Names rows place other → other < n
named-within rows n count within place other names = omega (arith, named-below rows within place other names, count)

inside-within : (r : Rows) (chosen : List Bool) → length r.rows ≡ length r.names → AreWithin r.rows → (place : ℕ) → IsInClosure r chosen place → place < length r.names
inside-within r chosen count within place (root below is) = below
inside-within r chosen count within place (named {place = before} inside names) = named-within r.rows (length r.names) count within before place names

pub closures-there : InClosureOrNot → ClosuresAreThere
closures-there inside-or-not r chosen count within =
    let made = set-of (IsInClosure r chosen) (λ place. inside-or-not r chosen place within) (length r.names) in
    (made.0, record { count = made.1; has_only = made.2; has_all = λ place inside. made.3 place (inside-within r chosen count within place inside) inside })

-- ---- orders

-- one of so many passes, the first of them, or none
first-below : (P : ℕ → Type 0) → ((k : ℕ) → Decided (P k)) → (n : ℕ) → ((k : ℕ) × IsFirst P k) ⊎ ((k : ℕ) → k < n → P k → ⊥)
first-below P decide zero = inr (λ k below. absurd (omega (arith, below)))
first-below P decide (suc n) =
    ⊎_elim
    (λ found. inl found)
    (λ (none : (k : ℕ) → k < n → P k → ⊥). ⊎_elim
    (λ (here : P n). inl (n, record { here = here; first = none }))
    (λ not-here. inr (λ k below holds. ⊎_elim (λ (l : k < n). none k l holds) (λ (past : n ≤ k). not-here (subst P (omega (arith, below, past)) holds)) (cases_lt k n)))
    (decide n))
    (first-below P decide n)

in-or-not : (o : Option Bool) → Decided (o ≡ Some true)
in-or-not None = inr (λ e. none-some true e)
in-or-not (Some true) = inl refl
in-or-not (Some false) = inr (λ e. true≢false (sym (same_Some false true e)))

module _ (rows : List Row) (set : List Bool) where
  -- all that a name names is placed, or something isn't
  after-or-not : (placed : List ℕ) (place : ℕ) (o : Option Row) → slice_get rows place ≡ o → Decided ((other : ℕ) → Names rows place other → Contains placed other)
  after-or-not placed place None e = inl (λ other names. absurd (no-row rows place e other names))
  after-or-not placed place (Some row) e =
      ⊎_elim
      (λ (all : (other : ℕ) → Contains row.named (id_at other) → Contains placed other). inl (λ other names. all other (names-in rows place row e other names)))
      (λ one. inr (λ every. one.2 (every one.0 (in-names rows place row e one.0 one.1))))
      (all-or-one placed row.named)

  may-or-not : (placed : List ℕ) (place : ℕ) → Decided (MayStand rows set placed place)
  may-or-not placed place =
      ⊎_elim
      (λ (one : IsIn set place). ⊎_elim
      (λ (held : Contains placed place). inr (λ (may : MayStand rows set placed place). may.new held))
      (λ (new : Contains placed place → ⊥). ⊎_elim
      (λ (after : (other : ℕ) → Names rows place other → Contains placed other). inl (record { one = one; new = new; after = after }))
      (λ none. inr (λ (may : MayStand rows set placed place). none may.after))
      (after-or-not placed place (slice_get rows place) refl))
      (has-or-not placed place))
      (λ none. inr (λ (may : MayStand rows set placed place). none may.one))
      (in-or-not (slice_get set place))

  -- one more is placed
  placed-more : (placed : List ℕ) (name : ℕ) → ArePlaced rows set placed → IsFirst (MayStand rows set placed) name → ArePlaced rows set (placed ++ name ∷ [])
  placed-more placed name each first at place e =
      ⊎_elim
      (λ old. subst (λ (xs : List ℕ). IsFirst (MayStand rows set xs) place) (sym (take-append-le at placed (name ∷ []) (let l = slice_get_within placed at place old in omega (arith, l)))) (each at place old))
      (λ p.
      let front : take at (placed ++ name ∷ []) ≡ placed = ap (λ (n : ℕ). take n (placed ++ name ∷ [])) p.0 ∙ take-append_seam placed (name ∷ []) in
      subst (λ (xs : List ℕ). IsFirst (MayStand rows set xs) place) (sym front) (subst (λ (x : ℕ). IsFirst (MayStand rows set placed) x) p.1 first))
      (push-place placed name place at e)

  -- names are placed as long as one may stand: the set has a place for each
  place-all : (fuel : ℕ) (placed : List ℕ) → length placed + fuel ≡ suc (length set) → ArePlaced rows set placed → (order : List ℕ) × IsOrder rows set order
  place-all zero placed left each = let few = placed-few rows set placed each in absurd (omega (arith, few, left))
  place-all (suc fuel) placed left each =
      ⊎_elim
      (λ (found : (k : ℕ) × IsFirst (MayStand rows set placed) k).
      place-all fuel (placed ++ found.0 ∷ []) (omega (arith, left, length-append placed (found.0 ∷ []))) (placed-more placed found.0 each found.1))
      (λ none. (placed, record { each = each; whole = λ place may. none place (slice_get_within set place true may.one) may }))
      (first-below (MayStand rows set placed) (may-or-not placed) (length set))

pub orders-there : OrdersAreThere
orders-there rows set = place-all rows set (suc (length set)) [] (omega arith) (λ at place e. absurd (none-some place e))
