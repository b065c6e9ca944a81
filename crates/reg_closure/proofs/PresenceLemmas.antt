-- A name's node is true exactly where the closure has the name.
use Rattle.std.proofs.Common.{◌≡◌, ◌∙◌, refl, sym, ap, subst, ℕ, ◌+◌, ◌*◌, ◌<◌, ⊎_elim, Bool, true, false, ◌||◌, List, [], ◌∷◌, length, map, get_or, slice_get, Some, All, Contains, arith}
use Rattle.std.specs.Prelude.{sum_by}
use Rattle.std.specs.List.{list_any}
use Rattle.std.proofs.lemmas.Bool.{false≢true, or_cases, or_left, or_right}
use Rattle.std.proofs.lemmas.List.{get_or-map, length-map}
use Rattle.std.proofs.lemmas.List.Elements.{All-head, All-tail}
use Rattle.std.proofs.lemmas.List.Folds.{list_any_at}
use Rattle.std.proofs.lemmas.List.Sums.{sum_by-cons}
use Rattle.std.proofs.lemmas.Option.{get_or_from_slice_get, slice_get_within}
use Rattle.vkb_formula.specs.Formulas.{size_of}
use Rattle.vkb_formula.specs.Pools.{IsPool, pool_values, value_at}
use Rattle.vkb_formula.specs.Reaches.{ValuesAreByParts}
use Rattle.vkb_formula.specs.declared.name_table.NameId.{NameId}
use Rattle.vkb_formula.specs.declared.pool.NodeId.{NodeId}
use Rattle.vkb_formula.specs.declared.pool.PoolNode.{PoolNode}
use Rattle.reg_registry.specs.Naming.{AreSound, Names}
use Rattle.reg_registry.specs.Rows.{Rows}
use Rattle.reg_registry.specs.declared.registry.Block.{Block}
use Rattle.reg_registry.specs.declared.registry.Row.{Row}
use Rattle.reg_closure.specs.Closure.{IsInClosure, is_root, named, root}
use Rattle.reg_closure.specs.Listed.{AreBehind, AreListed, IsWholeOrder, list_at, places_from, row_lists, row_pairs}
use Rattle.reg_closure.specs.Made.{AreMade, AreNamed, Grows, Keeps, block_raise, is_true, name_raise, node_at, root_cost}
use Rattle.reg_closure.specs.Presence.{SayPresence, SaysPresence, listed_pairs, most_raised}
use Rattle.reg_closure.proofs.MadeLemmas.{AreMade-keeps, Grows-then, list_any-map}
use Rattle.reg_closure.proofs.ListedLemmas.{within-list}
use Rattle.reg_closure.proofs.NamedLemmas.{Contains-cases, Contains-rest, listed-names, names-listed}
use Rattle.reg_closure.proofs.AllNamesLemmas.{named-within, names-raise}

-- one of a list passes
pub any-one : {X : Type 0} (p : X → Bool) (xs : List X) → list_any p xs ≡ true → (x : X) × Contains xs x × (p x ≡ true)
any-one p [] has = absurd (false≢true has)
any-one p (x ∷ xs) has = ⊎_elim (λ (h : p x ≡ true). (x, (0, omega arith, refl), h)) (λ rest. let found = any-one p xs rest in (found.0, Contains-rest x xs found.0 found.1, found.2)) (or_cases (p x) (list_any p xs) has)

pub one-any : {X : Type 0} (p : X → Bool) (xs : List X) (x : X) → Contains xs x → p x ≡ true → list_any p xs ≡ true
one-any p xs x has h = list_any_at p xs has.0 x has.1 (ap p has.2 ∙ h)

-- what the nodes are, by the steps that made them
pub record AreKnown (r : Rows) (nodes : List PoolNode) (roots ids : List NodeId) (table : List (List ℕ)) (order : List ℕ) : Type 0 where
  pub pool : IsPool nodes
  pub whole : IsWholeOrder r.rows (length r.names) order
  pub listed : AreListed row_lists row_pairs (length r.names) r.rows table
  pub made : AreMade (length r.names) nodes roots (λ name chosen. is_root r.blocks chosen name) (root_cost r.blocks)
  pub named : AreNamed nodes roots ids table order
  pub values : (set : List Bool) (place : ℕ) (n : PoolNode) → slice_get nodes place ≡ Some n → get_or (pool_values set nodes) place false ≡ value_at set (pool_values set nodes) n
  pub within : (place other : ℕ) → Names r.rows place other → other < length r.names

module _ (r : Rows) (nodes : List PoolNode) (roots ids : List NodeId) (table : List (List ℕ)) (order : List ℕ) (known : AreKnown r nodes roots ids table order) (chosen : List Bool) where
  abbrev on : ℕ → Bool
  on name = is_true nodes chosen (node_at ids name)

  -- a name's node is true where its root's is, or that of one that names it
  value-is : (name : ℕ) → name < length r.names → on name ≡ (is_root r.blocks chosen name || list_any on (places_from (row_lists name) 0 r.rows))
  value-is name below =
      let there = known.named.each name (known.whole.all name below) in
      known.values chosen (node_at ids name).0 _ there
      ∙ (ap (λ b. b || list_any (is_true nodes chosen) (map (node_at ids) (list_at table name))) ((known.made.each name below).says chosen)
      ∙ (ap (λ b. is_root r.blocks chosen name || b) (list_any-map (is_true nodes chosen) (node_at ids) (list_at table name))
      ∙ ap (λ ps. is_root r.blocks chosen name || list_any on ps) (known.listed.each name below)))

  -- from the last name of the order on
  only-behind : (names : List ℕ) → All (λ name. name < length r.names) names → AreBehind r.rows names → (name : ℕ) → Contains names name → on name ≡ true → IsInClosure r chosen name
  only-behind [] within behind name has is = absurd (omega (arith, has.1))
  only-behind (x ∷ xs) within behind name has is =
      let rest = only-behind xs (All-tail (λ name. name < length r.names) x xs within) behind.2 in
      let below = All-head (λ name. name < length r.names) x xs within in
      ⊎_elim (λ (here : x ≡ name).
      subst (IsInClosure r chosen) here (
      ⊎_elim (λ (is_there : is_root r.blocks chosen x ≡ true). root below is_there)
      (λ some.
      let found = any-one on (places_from (row_lists x) 0 r.rows) some in
      let names = listed-names r.rows x found.0 found.1 in
      named (rest found.0 (behind.1 found.0 names) found.2) names)
      (or_cases (is_root r.blocks chosen x) (list_any on (places_from (row_lists x) 0 r.rows)) (sym (value-is x below) ∙ (ap on here ∙ is)))
      ))
      (λ later. rest name later is) (Contains-cases x xs name has)

  all-true : (name : ℕ) → IsInClosure r chosen name → on name ≡ true
  all-true name (root below is_there) = value-is name below ∙ or_left (is_root r.blocks chosen name) _ is_there
  all-true name (named {place = place} inside names) =
      value-is name (known.within place name names) ∙ or_right (is_root r.blocks chosen name) _ (one-any on (places_from (row_lists name) 0 r.rows) place (names-listed r.rows name place names) (all-true place inside))

  says-presence : (name : ℕ) → name < length r.names → SaysPresence r nodes chosen name (node_at ids name)
  says-presence name below = record {
    only = λ is. only-behind order known.whole.within known.whole.behind name (known.whole.all name below) is;
    all = λ inside. all-true name inside;
  }

pub say-presence : (r : Rows) (nodes : List PoolNode) (roots ids : List NodeId) (table : List (List ℕ)) (order : List ℕ) → AreKnown r nodes roots ids table order → SayPresence r nodes ids
say-presence r nodes roots ids table order known =
    let count = known.named.count ∙ known.made.count in
    record {
      count = count;
      held = known.named.held;
      each = λ chosen fits place id here.
          let below : place < length r.names = omega (arith, slice_get_within ids place id here, count) in
          subst (SaysPresence r nodes chosen place) (get_or_from_slice_get ids place id (record { 0 = 0 }) here) (says-presence r nodes roots ids table order known chosen place below);
    }

-- ---- what the steps leave

pub known-from : (r : Rows) (mid nodes : List PoolNode) (roots ids : List NodeId) (table : List (List ℕ)) (order : List ℕ) → AreSound r → IsPool nodes → ValuesAreByParts → IsWholeOrder r.rows (length r.names) order
    → AreListed row_lists row_pairs (length r.names) r.rows table → AreMade (length r.names) mid roots (λ name chosen. is_root r.blocks chosen name) (root_cost r.blocks) → Keeps mid nodes → AreNamed nodes roots ids table order
    → AreKnown r nodes roots ids table order
known-from r mid nodes roots ids table order sound pool values whole listed made keeps names-are = record {
  pool = pool;
  whole = whole;
  listed = listed;
  made = AreMade-keeps (length r.names) mid nodes roots (λ name chosen. is_root r.blocks chosen name) (root_cost r.blocks) keeps made;
  named = names-are;
  values = λ set place n here. values set nodes place n pool here;
  within = named-within r sound;
}

pub order-within : (order : List NameId) (roots : List NodeId) (many : ℕ) → length roots ≡ many → All (λ name. name < many) (map (λ id. id.0) order) → All (λ id. id.0 < length roots) order
order-within order roots many count within = λ k d below.
    omega (arith, within k d.0 (omega (arith, below, length-map order (λ (id : NameId). id.0))), get_or-map (λ (id : NameId). id.0) order k d d.0 below, count)

pub table-within : {V : Type 0} (f : V → List ℕ) (table : List V) (rows : List Row) (many count : ℕ) → length rows ≡ count → AreListed row_lists row_pairs many rows (map f table) → All (λ list. All (λ name. name < count) (f list)) table
table-within f table rows many count is listed = λ k d below.
    let inside : k < many = omega (arith, below, listed.count, length-map table f) in
    let read : f (get_or table k d) ≡ places_from (row_lists k) 0 rows = sym (get_or-map f table k d [] below) ∙ listed.each k inside in
    subst (All (λ name. name < count)) (sym read) (subst (λ (n : ℕ). All (λ name. name < n) (places_from (row_lists k) 0 rows)) is (within-list (row_lists k) rows))

blocks-raise : (blocks : List Block) → sum_by block_raise blocks ≡ 2 * sum_by (λ b. size_of b.depends) blocks + 3 * length blocks
blocks-raise [] = refl
blocks-raise (b ∷ bs) = omega (arith, blocks-raise bs, sum_by-cons block_raise b bs, sum_by-cons (λ (b : Block). size_of b.depends) b bs)

pub size-all : (r : Rows) (first mid last : List PoolNode) (table : List (List ℕ)) (order : List ℕ) → IsWholeOrder r.rows (length r.names) order → AreListed row_lists row_pairs (length r.names) r.rows table
    → Grows first mid (length r.options + sum_by block_raise r.blocks + (7 * length r.names + listed_pairs r.blocks)) (length r.options) → Grows mid last (name_raise table order) 0 → Grows first last (most_raised r) (length r.options)
size-all r first mid last table order whole listed roots names =
    Grows-then first mid last _ _ (most_raised r) (length r.options) 0 (length r.options) roots names
    (omega (arith, blocks-raise r.blocks, listed.count, listed.total, names-raise r.rows table order (subst (λ (n : ℕ). All (λ name. name < n) order) (sym listed.count) whole.within) whole.behind)) (omega arith) (omega arith)
