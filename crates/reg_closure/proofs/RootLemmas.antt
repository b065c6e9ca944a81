-- What the node of a root says and takes, by the blocks that list the name.
use Rattle.std.proofs.Common.{◌≡◌, ◌∙◌, refl, sym, ap, subst, ℕ, ◌+◌, ◌*◌, ◌<◌, ◌≤◌, inl, inr, Bool, true, false, not, ◌&&◌, ◌||◌, cond, List, [], ◌∷◌, length, map, take, get_or, All, arith}
use Rattle.std.specs.Prelude.{sum_by}
use Rattle.std.specs.List.{filter, list_any}
use Rattle.std.proofs.lemmas.List.{get_or-map, length-map}
use Rattle.std.proofs.lemmas.List.Elements.{All-head, All-tail}
use Rattle.std.proofs.lemmas.List.Sums.{sum_by-cons, sum_by-take-le, sum_by_more}
use Rattle.vkb_formula.specs.Formulas.{clauses_of, node_clauses}
use Rattle.vkb_formula.specs.declared.formula.Formula.{Formula-F, fold-Formula, fold-roll-Formula}
use Rattle.vkb_formula.specs.declared.formula.Formula.TheVariants.{Always, rolls-Always}
use Rattle.vkb_formula.specs.declared.pool.NodeId.{NodeId}
use Rattle.vkb_formula.specs.declared.pool.PoolNode.{PoolNode}
use Rattle.reg_registry.specs.Depends.{IsDepends}
use Rattle.reg_registry.specs.declared.registry.Block.{Block}
use Rattle.reg_closure.specs.Closure.{is_active, is_root, lists_name}
use Rattle.reg_closure.specs.Listed.{AreListed, block_lists, block_pairs, list_at, places_from}
use Rattle.reg_closure.specs.Made.{AreMade, Grows, IsMade, block_cost, block_is, cost, cost_at, is_true, node_at, root_cost}
use Rattle.reg_closure.specs.Presence.{block_weight, listed_pairs}
use Rattle.reg_closure.proofs.ListedLemmas.{any-places, sum-places}
use Rattle.reg_closure.proofs.MadeLemmas.{Grows-then, IsMade-same}

-- ---- weights

clauses-Always : clauses_of Always ≡ 1
clauses-Always = ap (fold-Formula ℕ node_clauses) (sym rolls-Always) ∙ fold-roll-Formula ℕ node_clauses Formula-F.Always

weight : (b : Block) → IsDepends b.depends → 1 + block_cost b ≤ 5 * block_weight b
weight b (inl e) = omega (arith, ap clauses_of e, clauses-Always)
weight b (inr sized) = omega (arith, sized.clauses)

both-weights : (a l : Bool) (c w : ℕ) → 1 + c ≤ 5 * w → cond (cond true a (not a) && l) (1 + c) 0 + cond (cond false a (not a) && l) (1 + c) 0 ≤ 5 * cond l w 0
both-weights true true c w le = omega (arith, le)
both-weights true false c w le = omega arith
both-weights false true c w le = omega (arith, le)
both-weights false false c w le = omega arith

filter-sum : {X : Type 0} (f : X → ℕ) (p : Bool) (x : X) (xs : List X) → sum_by f (cond p (x ∷ xs) xs) ≡ cond p (f x) 0 + sum_by f xs
filter-sum f true x xs = sum_by-cons f x xs
filter-sum f false x xs = omega arith

abbrev weight_in : Bool → ℕ → Block → ℕ
weight_in adds name b = cond (block_lists adds name b) (1 + block_cost b) 0

weights : (name : ℕ) (blocks : List Block) → All (λ b. IsDepends b.depends) blocks → sum_by (weight_in true name) blocks + sum_by (weight_in false name) blocks ≤ 5 * sum_by block_weight (filter (lists_name name) blocks)
weights name [] depends = omega arith
weights name (b ∷ bs) depends =
    let rest = weights name bs (All-tail (λ (b : Block). IsDepends b.depends) b bs depends) in
    let here = both-weights b.adds (lists_name name b) (block_cost b) (block_weight b) (weight b (All-head (λ (b : Block). IsDepends b.depends) b bs depends)) in
    omega (arith, rest, here, sum_by-cons (weight_in true name) b bs, sum_by-cons (weight_in false name) b bs, filter-sum block_weight (lists_name name b) b (filter (lists_name name) bs))

-- ---- what a root's node says

any-alike : {X : Type 0} (p q : X → Bool) (xs : List X) → ((x : X) → p x ≡ q x) → list_any p xs ≡ list_any q xs
any-alike p q [] same = refl
any-alike p q (x ∷ xs) same = ap (λ b. b || list_any p xs) (same x) ∙ ap (λ b. q x || b) (any-alike p q xs same)

regroup : (a v l : Bool) → ((a && l) && v) ≡ (a && v && l)
regroup true true true = refl
regroup true true false = refl
regroup true false true = refl
regroup true false false = refl
regroup false v l = refl

module _ (old : List PoolNode) (ids : List NodeId) (blocks : List Block) (made : AreMade (length blocks) old ids (block_is blocks) (cost_at blocks)) where
  any-listed : (adds : Bool) (name : ℕ) (chosen : List Bool) → list_any (λ place. is_true old chosen (node_at ids place)) (places_from (block_lists adds name) 0 blocks) ≡ list_any (λ b. block_lists adds name b && is_active chosen b) blocks
  any-listed adds name chosen =
      any-places (block_lists adds name) (λ place. is_true old chosen (node_at ids place)) (is_active chosen) 0 blocks (λ k d below.
      let zeroth : 0 + k ≡ k = omega arith in
      ap (λ place. is_true old chosen (node_at ids place)) zeroth ∙ ((made.each k below).says chosen ∙ get_or-map (is_active chosen) blocks k d false below))

  sum-listed : (adds : Bool) (name : ℕ) → length (places_from (block_lists adds name) 0 blocks) + sum_by (λ place. cost old (node_at ids place)) (places_from (block_lists adds name) 0 blocks) ≤ sum_by (weight_in adds name) blocks
  sum-listed adds name =
      sum-places (block_lists adds name) (λ place. cost old (node_at ids place)) block_cost 0 blocks (λ k d below.
      let zeroth : 0 + k ≡ k = omega arith in
      subst (λ n. cost old (node_at ids n) ≤ block_cost (get_or blocks k d)) (sym zeroth) (omega (arith, (made.each k below).takes, get_or-map block_cost blocks k d 0 below)))

  pub root-is : (new : List PoolNode) (id : NodeId) (name : ℕ) (requirers removers : List ℕ) → requirers ≡ places_from (block_lists true name) 0 blocks → removers ≡ places_from (block_lists false name) 0 blocks → All (λ b. IsDepends b.depends) blocks
      → IsMade new id (λ chosen. list_any (λ place. is_true old chosen (node_at ids place)) requirers && not (list_any (λ place. is_true old chosen (node_at ids place)) removers))
      (5 + (length requirers + sum_by (λ place. cost old (node_at ids place)) requirers) + (length removers + sum_by (λ place. cost old (node_at ids place)) removers))
      → IsMade new id (λ chosen. is_root blocks chosen name) (root_cost blocks name)
  root-is new id name requirers removers adds takes depends root =
      let value = λ (chosen : List Bool) (places : List ℕ). list_any (λ place. is_true old chosen (node_at ids place)) places in
      let taken = λ (places : List ℕ). length places + sum_by (λ place. cost old (node_at ids place)) places in
      IsMade-same new id (λ chosen. value chosen requirers && not (value chosen removers)) (λ chosen. is_root blocks chosen name) _ (root_cost blocks name) root
      (λ chosen.
      ap (λ b. b && not (value chosen removers)) (ap (value chosen) adds ∙ any-listed true name chosen
      ∙ any-alike (λ b. block_lists true name b && is_active chosen b) (λ b. b.adds && is_active chosen b && lists_name name b) blocks (λ b. regroup b.adds (is_active chosen b) (lists_name name b)))
      ∙ ap (λ b. list_any (λ b. b.adds && is_active chosen b && lists_name name b) blocks && not b) (ap (value chosen) takes ∙ any-listed false name chosen
      ∙ any-alike (λ b. block_lists false name b && is_active chosen b) (λ b. not b.adds && is_active chosen b && lists_name name b) blocks (λ b. regroup (not b.adds) (is_active chosen b) (lists_name name b))))
      (omega (arith, ap taken adds, ap taken takes, sum-listed true name, sum-listed false name, weights name blocks depends))

-- ---- tables

pub list-read : {V : Type 0} (f : V → List ℕ) (table : List V) (name : ℕ) (v : V) (list : List ℕ) → list ≡ f v → v ≡ get_or table name v → name < length table → list ≡ list_at (map f table) name
list-read f table name v list is read below = is ∙ (ap f read ∙ sym (get_or-map f table name v [] below))

pub list-found : {V A : Type 0} (f : V → List ℕ) (table : List V) (name many : ℕ) (v : V) (list : List ℕ) (lists : ℕ → A → Bool) (pairs : A → ℕ) (xs : List A) → list ≡ f v → v ≡ get_or table name v → name < many
    → AreListed lists pairs many xs (map f table) → (list ≡ list_at (map f table) name) × (list ≡ places_from (lists name) 0 xs)
list-found f table name many v list lists pairs xs is read below listed =
    let here = list-read f table name v list is read (omega (arith, below, listed.count, length-map table f)) in (here, here ∙ listed.each name below)

pub roots-grow : (first old new : List PoolNode) (name : ℕ) (all-requirers all-removers : List (List ℕ)) (requirers removers : List ℕ) → requirers ≡ list_at all-requirers name → removers ≡ list_at all-removers name
    → name < length all-requirers → name < length all-removers
    → Grows first old (7 * name + (sum_by length (take name all-requirers) + sum_by length (take name all-removers))) 0 → Grows old new (7 + (length requirers + length removers)) 0
    → Grows first new (7 * (name + 1) + (sum_by length (take (name + 1) all-requirers) + sum_by length (take (name + 1) all-removers))) 0
roots-grow first old new name all-requirers all-removers requirers removers is is' below below' before after =
    Grows-then first old new _ _ _ 0 0 0 before after
    (omega (arith, sum_by_more (length {A = ℕ}) all-requirers name [] below, sum_by_more (length {A = ℕ}) all-removers name [] below', ap (length {A = ℕ}) is, ap (length {A = ℕ}) is')) (omega arith) (omega arith)

one-pairs : (a : Bool) (n : ℕ) → cond (cond true a (not a)) n 0 + cond (cond false a (not a)) n 0 ≡ n
one-pairs true n = omega arith
one-pairs false n = omega arith

pairs-total : (blocks : List Block) → sum_by (block_pairs true) blocks + sum_by (block_pairs false) blocks ≡ listed_pairs blocks
pairs-total [] = refl
pairs-total (b ∷ bs) =
    omega (arith, pairs-total bs, one-pairs b.adds (length b.lists), sum_by-cons (block_pairs true) b bs, sum_by-cons (block_pairs false) b bs, sum_by-cons (λ (b : Block). length b.lists) b bs)

pub roots-all : (first new : List PoolNode) (name many : ℕ) (all-requirers all-removers : List (List ℕ)) (blocks : List Block) → name ≤ many → AreListed (block_lists true) (block_pairs true) many blocks all-requirers
    → AreListed (block_lists false) (block_pairs false) many blocks all-removers → Grows first new (7 * name + (sum_by length (take name all-requirers) + sum_by length (take name all-removers))) 0
    → Grows first new (7 * many + listed_pairs blocks) 0
roots-all first new name many all-requirers all-removers blocks upto requirers removers before = record {
  size = omega (arith, before.size, upto, requirers.total, removers.total, pairs-total blocks, sum_by-take-le (length {A = ℕ}) all-requirers name, sum_by-take-le (length {A = ℕ}) all-removers name);
  reach = before.reach;
}
