-- The order of all names, from the last on, and the sum over its names.
use Rattle.std.proofs.Common.{◌≡◌, ◌≢◌, ◌∙◌, refl, sym, ap, subst, ℕ, zero, suc, ◌+◌, ◌-◌, ◌*◌, ◌<◌, ◌≤◌, Bool, true, List, [], ◌∷◌, length, map, drop, set, replicate, get_or, slice_get, Some, All, Contains, arith}
use Rattle.std.specs.Prelude.{sum_by}
use Rattle.std.proofs.lemmas.List.{get_or-map, get_or-replicate, get_or-set_other, length-map, length-replicate, length-set}
use Rattle.std.proofs.lemmas.List.Elements.{All-contains, All-head, All-tail}
use Rattle.std.proofs.lemmas.List.Sums.{sum_by-cons, sum_by-set}
use Rattle.std.proofs.lemmas.Option.{get_or_from_slice_get, slice_get-get_or, slice_get_within}
use Rattle.vkb_formula.specs.declared.name_table.NameId.{NameId}
use Rattle.reg_registry.specs.Naming.{AreSound, IsSoundRow, Names}
use Rattle.reg_registry.specs.Rows.{Rows, id_at}
use Rattle.reg_registry.specs.declared.registry.Row.{Row}
use Rattle.reg_closure.specs.Closure.{IsIn}
use Rattle.reg_closure.specs.Listed.{AreBehind, IsWholeOrder, list_at}
use Rattle.reg_closure.specs.Made.{name_raise}
use Rattle.reg_closure.specs.Orders.{HasEachOnce, IsClosedSet, StandBehind}
use Rattle.reg_closure.proofs.MadeLemmas.{sum_by-map}
use Rattle.reg_closure.proofs.NamedLemmas.{names-row, names-within}

-- ---- the set of all names

in-all : (many place : ℕ) → place < many → IsIn (replicate many true) place
in-all many place below = slice_get-get_or (replicate many true) place true (omega (arith, length-replicate many true, below)) ∙ ap Some (get_or-replicate many place true true below)

all-in : (many place : ℕ) → IsIn (replicate many true) place → place < many
all-in many place has = omega (arith, slice_get_within (replicate many true) place true has, length-replicate many true)

-- what a registry's names name is there
pub named-within : (r : Rows) → AreSound r → (place other : ℕ) → Names r.rows place other → other < length r.names
named-within r sound place other names =
    let found = names-row (λ (row : Row). Contains row.named (id_at other)) r.rows place names in
    let row = found.0 in
    let here = subst (IsSoundRow (length r.names) (length r.blocks)) (get_or_from_slice_get r.rows place row row found.1) (sound.each_row place row (slice_get_within r.rows place row found.1)) in
    All-contains (λ (id : NameId). id.0 < length r.names) row.named (id_at other) here.named found.2

pub all-closed : (r : Rows) (set : List Bool) → AreSound r → set ≡ replicate (length r.names) true → IsClosedSet r.rows set
all-closed r set sound is = λ place other has names. subst (λ (s : List Bool). IsIn s other) (sym is) (in-all (length r.names) other (named-within r sound place other names))

-- ---- places in a list

place-of : {X : Type 0} (xs : List X) (x : X) → Contains xs x → (k : ℕ) × (slice_get xs k ≡ Some x)
place-of xs x has = (has.0, slice_get-get_or xs has.0 x has.1 ∙ ap Some has.2)

contains-at : {X : Type 0} (xs : List X) (k : ℕ) (x : X) → slice_get xs k ≡ Some x → Contains xs x
contains-at xs k x e = (k, slice_get_within xs k x e, get_or_from_slice_get xs k x x e)

drop-place : {X : Type 0} (xs : List X) (n k : ℕ) → slice_get (drop n xs) k ≡ slice_get xs (n + k)
drop-place xs zero k = let zeroth : k ≡ 0 + k = omega arith in ap (slice_get xs) zeroth
drop-place [] (suc n) k = refl
drop-place (x ∷ xs) (suc n) k = let next : suc (n + k) ≡ suc n + k = omega arith in drop-place xs n k ∙ ap (slice_get (x ∷ xs)) next

drop-head : {X : Type 0} (ys : List X) (k : ℕ) (x : X) (xs : List X) → drop k ys ≡ x ∷ xs → (slice_get ys k ≡ Some x) × (drop (suc k) ys ≡ xs)
drop-head [] zero x xs e = absurd (cc)
drop-head [] (suc k) x xs e = absurd (cc)
drop-head (y ∷ ys) zero x xs e = (cc, cc)
drop-head (y ∷ ys) (suc k) x xs e = drop-head ys k x xs e

module _ (rows : List Row) (many : ℕ) (order : List ℕ) (rows-count : length rows ≡ many) (each : HasEachOnce (replicate many true) order) (stand : StandBehind rows order) where
  behind-from : (names : List ℕ) (k : ℕ) → drop k order ≡ names → AreBehind rows names
  behind-from [] k is = tt
  behind-from (x ∷ xs) k is =
      let head = drop-head order k x xs is in (
        λ has.
            let again = place-of xs x has in
            let there = sym (drop-place order (suc k) again.0) ∙ (ap (λ ns. slice_get ns again.0) head.1 ∙ again.1) in
            absurd (omega (arith, each.once k (suc k + again.0) x head.0 there)),
        λ other names.
            let place = place-of order other (each.all other (in-all many other (omega (arith, names-within rows other x names, rows-count)))) in
            let before = stand place.0 other x place.1 names in
            let here = each.once before.0 k x before.2 head.0 in
            let at = place.0 - suc k in
            let split : suc k + at ≡ place.0 = omega (arith, before.1, here) in
            contains-at xs at other (ap (λ ns. slice_get ns at) (sym head.1) ∙ (drop-place order (suc k) at ∙ (ap (slice_get order) split ∙ place.1))),
        behind-from xs (suc k) head.1,
      )

  pub whole-order : IsWholeOrder rows many order
  whole-order = record {
    within = λ k d below. all-in many (get_or order k d) (each.only (get_or order k d) (contains-at order k (get_or order k d) (slice_get-get_or order k d below)));
    all = λ name below. each.all name (in-all many name below);
    behind = behind-from order 0 refl;
  }

-- ---- a sum over names, each of which stands once

sum-apart : (weights : List ℕ) (x : ℕ) (names : List ℕ) → (Contains names x → ⊥) → sum_by (λ name. get_or weights name 0) names ≡ sum_by (λ name. get_or (set weights x 0) name 0) names
sum-apart weights x [] apart = refl
sum-apart weights x (y ∷ ys) apart =
    let differs : y ≢ x = λ e. apart (0, omega arith, e) in
    sum_by-cons (λ name. get_or weights name 0) y ys
    ∙ (ap (λ n. n + sum_by (λ name. get_or weights name 0) ys) (sym (get_or-set_other weights x y 0 0 differs))
    ∙ (ap (λ n. get_or (set weights x 0) y 0 + n) (sum-apart weights x ys (λ has. apart (suc has.0, omega (arith, has.1), has.2))) ∙ sym (sum_by-cons (λ name. get_or (set weights x 0) name 0) y ys)))

sum-once : (rows : List Row) (names : List ℕ) (weights : List ℕ) → All (λ name. name < length weights) names → AreBehind rows names → sum_by (λ name. get_or weights name 0) names ≤ sum_by (λ n. n) weights
sum-once rows [] weights within behind = omega arith
sum-once rows (x ∷ xs) weights within behind =
    let below = All-head (λ name. name < length weights) x xs within in
    let rest = sum-once rows xs (set weights x 0) (subst (λ n. All (λ name. name < n) xs) (sym (length-set weights x 0)) (All-tail (λ name. name < length weights) x xs within)) behind.2 in
    omega (arith, rest, sum_by-cons (λ name. get_or weights name 0) x xs, sum-apart weights x xs behind.0, sum_by-set (λ n. n) weights x 0 0 below)

raise-all : (table : List (List ℕ)) → sum_by (λ list. 2 + length list) table ≡ 2 * length table + sum_by length table
raise-all [] = refl
raise-all (x ∷ xs) = omega (arith, raise-all xs, sum_by-cons (λ (list : List ℕ). 2 + length list) x xs, sum_by-cons (length {A = ℕ}) x xs)

weights-read : (table : List (List ℕ)) (names : List ℕ) → All (λ name. name < length table) names → name_raise table names ≡ sum_by (λ name. get_or (map (λ list. 2 + length list) table) name 0) names
weights-read table [] within = refl
weights-read table (x ∷ xs) within =
    omega (
      arith,
      weights-read table xs (All-tail (λ name. name < length table) x xs within),
      sum_by-cons (λ name. 2 + length (list_at table name)) x xs,
      sum_by-cons (λ name. get_or (map (λ (list : List ℕ). 2 + length list) table) name 0) x xs,
      get_or-map (λ (list : List ℕ). 2 + length list) table x [] 0 (All-head (λ name. name < length table) x xs within),
    )

pub names-raise : (rows : List Row) (table : List (List ℕ)) (names : List ℕ) → All (λ name. name < length table) names → AreBehind rows names → name_raise table names ≤ 2 * length table + sum_by length table
names-raise rows table names within behind =
    let weights = map (λ (list : List ℕ). 2 + length list) table in
    let inside = subst (λ n. All (λ name. name < n) names) (sym (length-map table (λ (list : List ℕ). 2 + length list))) within in
    omega (arith, weights-read table names within, sum-once rows names weights inside behind, sum_by-map (λ n. n) (λ (list : List ℕ). 2 + length list) table, raise-all table)
