-- The nodes of names, each put behind the nodes of those that name it.
use Rattle.std.proofs.Common.{◌≡◌, ◌≢◌, ◌∙◌, refl, sym, ap, subst, ℕ, zero, suc, ◌+◌, ◌<◌, ◌⊎◌, inl, inr, ⊎_elim, true, eqb, List, [], ◌∷◌, length, map, drop, set, get_or, slice_get, Some, All, Contains, IsSomeAnd, arith}
use Rattle.std.proofs.lemmas.Bool.{eq-eqb, eqb-true, false≢true, or_cases, or_left, or_right}
use Rattle.std.proofs.lemmas.List.{get_or-set_other, get_or-set_same, length-set}
use Rattle.std.proofs.lemmas.List.Elements.{All-head, All-set, All-tail, All-weaker, Contains-get_or}
use Rattle.std.proofs.lemmas.List.Sums.{sum_by-cons}
use Rattle.std.proofs.lemmas.Option.{get_or_from_slice_get, slice_get-get_or, slice_get_within}
use Rattle.vkb_formula.specs.declared.name_table.NameId.{NameId}
use Rattle.vkb_formula.specs.declared.pool.NodeId.{NodeId}
use Rattle.vkb_formula.specs.declared.pool.PoolNode.{PoolNode}
use Rattle.vkb_formula.specs.declared.pool.PoolNode.TheVariants as node
use Rattle.reg_registry.specs.Naming.{Names}
use Rattle.reg_registry.specs.Rows.{id_at}
use Rattle.reg_registry.specs.declared.registry.Row.{Row}
use Rattle.reg_closure.specs.Closure.{has_name}
use Rattle.reg_closure.specs.Listed.{AreBehind, AreListed, list_at, places_from, row_lists, row_pairs}
use Rattle.reg_closure.specs.Made.{AreNamed, AreOrdered, Grows, IsNamed, Keeps, first_node, name_raise, node_at}
use Rattle.reg_closure.proofs.ListedLemmas.{passes-place, place-passes}
use Rattle.reg_closure.proofs.MadeLemmas.{Grows-then}

-- ---- members of lists

pub Contains-cases : {X : Type 0} (x : X) (xs : List X) (y : X) → Contains (x ∷ xs) y → (x ≡ y) ⊎ Contains xs y
Contains-cases x xs y has = go has.0 has.1 has.2
  where
    go : (k : ℕ) → k < length (x ∷ xs) → get_or (x ∷ xs) k y ≡ y → (x ≡ y) ⊎ Contains xs y
    go zero below e = inl e
    go (suc k) below e = inr (k, omega (arith, below), e)

pub Contains-first : {X : Type 0} (x : X) (xs : List X) → Contains (x ∷ xs) x
Contains-first x xs = (0, omega arith, refl)

pub Contains-rest : {X : Type 0} (x : X) (xs : List X) (y : X) → Contains xs y → Contains (x ∷ xs) y
Contains-rest x xs y has = (suc has.0, omega (arith, has.1), has.2)

-- ---- who names whom

has-contains : (ids : List NameId) (name : ℕ) → has_name ids name ≡ true → Contains ids (id_at name)
has-contains [] name has = absurd (false≢true has)
has-contains (x ∷ xs) name has =
    ⊎_elim (λ (e : eqb x.0 name ≡ true). subst (Contains (x ∷ xs)) (ap (λ (n : ℕ). id_at n) (eqb-true x.0 name e)) (Contains-first x xs))
    (λ rest. Contains-rest x xs (id_at name) (has-contains xs name rest)) (or_cases (eqb x.0 name) (has_name xs name) has)

contains-has : (ids : List NameId) (name : ℕ) → Contains ids (id_at name) → has_name ids name ≡ true
contains-has [] name has = absurd (omega (arith, has.1))
contains-has (x ∷ xs) name has =
    ⊎_elim (λ (e : x ≡ id_at name). or_left (eqb x.0 name) (has_name xs name) (eq-eqb x.0 name (ap (λ (id : NameId). id.0) e)))
    (λ rest. or_right (eqb x.0 name) (has_name xs name) (contains-has xs name rest)) (Contains-cases x xs (id_at name) has)

names-at : (rows : List Row) (name k : ℕ) → k < length rows → ((d : Row) → row_lists name (get_or rows k d) ≡ true) → Names rows k name
names-at [] name k below is = absurd (omega arith)
names-at (r ∷ rs) name k below is =
    subst (λ o. IsSomeAnd o (λ (row : Row). Contains row.named (id_at name))) (sym (slice_get-get_or (r ∷ rs) k r below)) (has-contains (get_or (r ∷ rs) k r).named name (is r))

-- what stands in the list of a name names it, and the other way round
pub listed-names : (rows : List Row) (name other : ℕ) → Contains (places_from (row_lists name) 0 rows) other → Names rows other name
listed-names rows name other has =
    let found = place-passes (row_lists name) 0 rows other has in
    let same : other ≡ found.0 = omega (arith, found.2) in
    subst (λ n. Names rows n name) (sym same) (names-at rows name found.0 found.1 found.3)

pub names-row : {A : Type 0} (P : A → Type 0) (xs : List A) (k : ℕ) → IsSomeAnd (slice_get xs k) P → (x : A) × (slice_get xs k ≡ Some x) × P x
names-row P [] k h = absurd h
names-row P (x ∷ xs) zero h = (x, refl, h)
names-row P (x ∷ xs) (suc k) h = names-row P xs k h

pub names-listed : (rows : List Row) (name other : ℕ) → Names rows other name → Contains (places_from (row_lists name) 0 rows) other
names-listed rows name other names =
    let found = names-row (λ (row : Row). Contains row.named (id_at name)) rows other names in
    let row = found.0 in
    let below = slice_get_within rows other row found.1 in
    let zeroth : 0 + other ≡ other = omega arith in
    subst (Contains (places_from (row_lists name) 0 rows)) zeroth
    (passes-place (row_lists name) 0 rows other row below (ap (row_lists name) (get_or_from_slice_get rows other row row found.1) ∙ contains-has row.named name found.2))

pub names-within : (rows : List Row) (place other : ℕ) → Names rows place other → place < length rows
names-within rows place other names = let found = names-row (λ (row : Row). Contains row.named (id_at other)) rows place names in slice_get_within rows place found.0 found.1

-- ---- orders

pub AreOrdered-drop : (table : List (List ℕ)) (names : List ℕ) (k : ℕ) → AreOrdered table names → AreOrdered table (drop k names)
AreOrdered-drop table names zero ordered = ordered
AreOrdered-drop table [] (suc k) ordered = ordered
AreOrdered-drop table (x ∷ xs) (suc k) ordered = AreOrdered-drop table xs k ordered.2

ordered-closed : (table : List (List ℕ)) (names : List ℕ) (name : ℕ) → AreOrdered table names → Contains names name → All (Contains names) (list_at table name)
ordered-closed table [] name ordered has = absurd (omega (arith, has.1))
ordered-closed table (x ∷ xs) name ordered has =
    All-weaker (Contains xs) (Contains (x ∷ xs)) (λ y h. Contains-rest x xs y h) (list_at table name)
    (⊎_elim (λ (e : x ≡ name). subst (λ n. All (Contains xs) (list_at table n)) e ordered.1) (λ rest. ordered-closed table xs name ordered.2 rest) (Contains-cases x xs name has))

pub AreOrdered-behind : (rows : List Row) (many : ℕ) (table : List (List ℕ)) (names : List ℕ) → AreListed row_lists row_pairs many rows table → All (λ name. name < many) names → AreBehind rows names → AreOrdered table names
AreOrdered-behind rows many table [] listed within behind = tt
AreOrdered-behind rows many table (x ∷ xs) listed within behind = (
  behind.0,
  subst (All (Contains xs)) (sym (listed.each x (All-head (λ name. name < many) x xs within))) (λ k d below. behind.1 (get_or (places_from (row_lists x) 0 rows) k d) (listed-names rows x (get_or (places_from (row_lists x) 0 rows) k d) (Contains-get_or (places_from (row_lists x) 0 rows) k d below))),
  AreOrdered-behind rows many table xs listed (All-tail (λ name. name < many) x xs within) behind.2,
)

-- ---- a name's node more

map-apart : (ids : List NodeId) (name : ℕ) (id : NodeId) (places : List ℕ) → All (λ place. place ≡ name → ⊥) places → map (node_at (set ids name id)) places ≡ map (node_at ids) places
map-apart ids name id [] apart = refl
map-apart ids name id (p ∷ ps) apart =
    let differs : p ≢ name = All-head (λ (place : ℕ). place ≡ name → ⊥) p ps apart in
    ap (λ n. n ∷ map (node_at (set ids name id)) ps) (get_or-set_other ids name p id first_node differs) ∙ ap (λ ns. node_at ids p ∷ ns) (map-apart ids name id ps (All-tail (λ (place : ℕ). place ≡ name → ⊥) p ps apart))

node-same : (first : NodeId) (a b : List NodeId) → a ≡ b → Some (node.Any (first ∷ a)) ≡ Some (node.Any (first ∷ b))
node-same first a b e = ap (λ (ns : List NodeId). Some (node.Any (first ∷ ns))) e

pub named-more : (old new : List PoolNode) (roots ids : List NodeId) (table : List (List ℕ)) (names : List ℕ) (name : ℕ) (id : NodeId) → Keeps old new → AreNamed old roots ids table names → AreOrdered table (name ∷ names) → name < length roots → id.0 < length new
    → slice_get new id.0 ≡ Some (node.Any (node_at roots name ∷ map (node_at ids) (list_at table name))) → AreNamed new roots (set ids name id) table (name ∷ names)
named-more old new roots ids table names name id keeps before ordered below held there =
    let after = set ids name id in
    let within : name < length ids = omega (arith, before.count, below) in
    let apart : (other : ℕ) → Contains names other → other ≡ name → ⊥ = λ other has e. ordered.0 (subst (Contains names) e has) in
    let same : (other : ℕ) → All (Contains names) (list_at table other) → map (node_at after) (list_at table other) ≡ map (node_at ids) (list_at table other) =
    λ other all. map-apart ids name id (list_at table other) (All-weaker (Contains names) (λ (place : ℕ). place ≡ name → ⊥) apart (list_at table other) all) in
    record {
      count = length-set ids name id ∙ before.count;
      held = All-set (λ (n : NodeId). n.0 < length new) ids name id held (All-weaker (λ (n : NodeId). n.0 < length old) (λ (n : NodeId). n.0 < length new) (λ n h. omega (arith, h, keeps.count)) ids before.held);
      each = λ other has. ⊎_elim
          (λ (e : name ≡ other). subst (IsNamed new roots after table) e
          (ap (λ (n : NodeId). slice_get new n.0) (get_or-set_same ids name id first_node within) ∙ (there ∙ sym (node-same (node_at roots name) _ _ (same name ordered.1)))))
          (λ rest.
          let differs : other ≢ name = apart other rest in
          let kept = get_or-set_other ids name other id first_node differs in
          let was = before.each other rest in
          let here = slice_get_within old (node_at ids other).0 _ was in
          ap (λ (n : NodeId). slice_get new n.0) kept ∙ (keeps.stays (node_at ids other).0 here ∙ (was ∙ sym (node-same (node_at roots other) _ _ (same other (ordered-closed table names other ordered.2 rest))))))
          (Contains-cases name names other has);
    }

pub names-grow : (first old new : List PoolNode) (table : List (List ℕ)) (names : List ℕ) (name : ℕ) (list : List ℕ) → list ≡ list_at table name → Grows first old (name_raise table names) 0 → Grows old new (2 + length list) 0
    → Grows first new (name_raise table (name ∷ names)) 0
names-grow first old new table names name list is before after =
    Grows-then first old new _ _ _ 0 0 0 before after (omega (arith, ap (length {A = ℕ}) is, sum_by-cons (λ name. 2 + length (list_at table name)) name names)) (omega arith) (omega arith)
