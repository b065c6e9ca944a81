-- Nodes that are put last, and what they say.
use Rattle.std.proofs.Common.{◌≡◌, ℕ, ◌+◌, ◌<◌, ◌≤◌, Bool, true, false, not, ◌||◌, List, [], ◌∷◌, ◌++◌, length, map, get_or, Some, slice_get, sum_by, All, refl, sym, ap, subst, ◌∙◌, arith}
use Rattle.std.specs.Option.{option_map, unwrap_or}
use Rattle.std.specs.Prelude.{IfOk, OnOk, Result, Ok, Err}
use Rattle.std.proofs.Math.Seq.{get_or-append_seam}
use Rattle.std.proofs.lemmas.List.{append-nil, append_assoc, length-append, length-map}
use Rattle.std.proofs.lemmas.List.Elements.{All-weaker}
use Rattle.std.proofs.lemmas.Option.{get_or_from_slice_get, slice_get-map, slice_get_within, unwrap_or-slice_get}
use Rattle.vkb_formula.specs.Formulas.{clauses_of, value_of}
use Rattle.vkb_formula.specs.Pools.{Extends, node_clauses, node_variables, parts_of, pool_values, sum_reached, unfolded, value_at}
use Rattle.vkb_formula.specs.declared.formula.Formula.{Formula}
use Rattle.vkb_formula.specs.declared.pool.NodeId.{NodeId}
use Rattle.vkb_formula.specs.declared.pool.PoolNode.{PoolNode}
use Rattle.vkb_formula.specs.declared.pool.PoolNode.TheVariants as node
use Rattle.reg_registry.specs.Rows.{Rows}
use Rattle.reg_closure.specs.Presence.{KeepBounds, SayPresence}
use Rattle.reg_permit.specs.Nodes.{IsNodeOf, asks_formula, asks_node, feature_says}

-- what always holds of pools that grow
pub record PoolLaws : Type 0 where
  pub formulas : (nodes more : List PoolNode) (place : ℕ) → place < length nodes → slice_get (unfolded (nodes ++ more)) place ≡ slice_get (unfolded nodes) place
  pub count : (nodes : List PoolNode) → length (unfolded nodes) ≡ length nodes
  pub sums : (nodes more : List PoolNode) (root : ℕ) (weigh : PoolNode → ℕ) → root < length nodes → sum_reached weigh (nodes ++ more) root ≡ sum_reached weigh nodes root
  pub shared : (nodes : List PoolNode) (last : PoolNode) (weigh : PoolNode → ℕ)
      → sum_reached weigh (nodes ++ last ∷ []) (length nodes) ≤ weigh last + sum_by (sum_reached weigh nodes) (parts_of last)

pub extends-length : (old new : List PoolNode) → Extends old new → (k : ℕ) → k < length old → k < length new
extends-length old new e k l = omega (arith, l, ap (λ (x : List PoolNode). length x) e.1, length-append old e.0)

pub extends-itself : (old : List PoolNode) → Extends old old
extends-itself old = ([], sym (append-nil old))

pub extends-more : (old mid new : List PoolNode) → Extends old mid → Extends mid new → Extends old new
extends-more old mid new a b = (a.0 ++ b.0, b.1 ∙ ap (λ (x : List PoolNode). x ++ b.0) a.1 ∙ append_assoc old a.0 b.0)

-- one node more
pub extends-push : (old new : List PoolNode) (last : PoolNode) → new ≡ old ++ last ∷ [] → Extends old new
extends-push old new last e = (last ∷ [], e)

-- another name for what is said, and more clauses at most
pub node-says : (nodes : List PoolNode) (id : NodeId) (says other : List Bool → Bool) (most more : ℕ) → IsNodeOf nodes id says most
    → ((set : List Bool) → says set ≡ other set) → most ≤ more → IsNodeOf nodes id other more
node-says nodes id says other most more n same l = record {
  held = n.held;
  value = λ set. n.value set ∙ same set;
  size = omega (arith, n.size, l);
}

pub held-at : (nodes : List PoolNode) (ids : List NodeId) (place : ℕ) (id : NodeId) → slice_get ids place ≡ Some id → All (λ id. id.0 < length nodes) ids → id.0 < length nodes
held-at nodes ids place id at all =
    subst (λ (x : NodeId). x.0 < length nodes) (get_or_from_slice_get ids place id id at) (all place id (slice_get_within ids place id at))

-- what follows where an answer is there
pub where-ok : {E : Type 0} (r : Result NodeId E) (P Q : Type 0) (R S : NodeId → Type 0) → OnOk r P → OnOk r Q → IfOk r R → ((id : NodeId) → P → Q → R id → S id) → IfOk r S
where-ok (Err e) P Q R S p q h f = tt
where-ok (Ok id) P Q R S p q h f = f id p q h

module _ (laws : PoolLaws) where
  values-count : (set : List Bool) (nodes : List PoolNode) → length (pool_values set nodes) ≡ length nodes
  values-count set nodes = length-map (unfolded nodes) (value_of set) ∙ laws.count nodes

  read-formula : (set : List Bool) (made : List Formula) (k : ℕ) → get_or (map (value_of set) made) k false ≡ unwrap_or (option_map (value_of set) (slice_get made k)) false
  read-formula set made k =
      sym (unwrap_or-slice_get (map (value_of set) made) k false) ∙ ap (λ o. unwrap_or o false) (slice_get-map (value_of set) made k)

  pub value-stays : (set : List Bool) (old new : List PoolNode) → Extends old new → (k : ℕ) → k < length old → get_or (pool_values set new) k false ≡ get_or (pool_values set old) k false
  value-stays set old new e k l =
      ap (λ (x : List PoolNode). get_or (pool_values set x) k false) e.1
      ∙ read-formula set (unfolded (old ++ e.0)) k ∙ ap (λ o. unwrap_or (option_map (value_of set) o) false) (laws.formulas old e.0 k l)
      ∙ sym (read-formula set (unfolded old) k)

  pub sum-stays : (weigh : PoolNode → ℕ) (old new : List PoolNode) → Extends old new → (k : ℕ) → k < length old → sum_reached weigh new k ≡ sum_reached weigh old k
  sum-stays weigh old new e k l = ap (λ (x : List PoolNode). sum_reached weigh x k) e.1 ∙ laws.sums old e.0 k weigh l

  pub node-stays : (old new : List PoolNode) → Extends old new → (id : NodeId) (says : List Bool → Bool) (most : ℕ) → IsNodeOf old id says most → IsNodeOf new id says most
  node-stays old new e id says most n = record {
    held = extends-length old new e id.0 n.held;
    value = λ set. value-stays set old new e id.0 n.held ∙ n.value set;
    size = omega (arith, n.size, sum-stays node_clauses old new e id.0 n.held);
  }

  -- a node that is put last
  module _ (old new : List PoolNode) (last : PoolNode) (id : NodeId) (all : new ≡ old ++ last ∷ []) (place : id.0 ≡ length old)
      (values : (set : List Bool) → pool_values set new ≡ pool_values set old ++ value_at set (pool_values set old) last ∷ []) where
    pub last-held : id.0 < length new
    last-held = omega (arith, place, ap (λ (x : List PoolNode). length x) all, length-append old (last ∷ []))

    pub last-value : (set : List Bool) → get_or (pool_values set new) id.0 false ≡ value_at set (pool_values set old) last
    last-value set =
        ap (λ (bs : List Bool). get_or bs id.0 false) (values set)
        ∙ ap (λ (k : ℕ). get_or (pool_values set old ++ value_at set (pool_values set old) last ∷ []) k false) (place ∙ sym (values-count set old))
        ∙ get_or-append_seam (pool_values set old) (value_at set (pool_values set old) last) [] false

    pub last-sum : (weigh : PoolNode → ℕ) → sum_reached weigh new id.0 ≤ weigh last + sum_by (sum_reached weigh old) (parts_of last)
    last-sum weigh =
        subst (λ (x : List PoolNode). sum_reached weigh x id.0 ≤ weigh last + sum_by (sum_reached weigh old) (parts_of last)) (sym all)
        (subst (λ (k : ℕ). sum_reached weigh (old ++ last ∷ []) k ≤ weigh last + sum_by (sum_reached weigh old) (parts_of last)) (sym place) (laws.shared old last weigh))

    pub last-node : IsNodeOf new id (λ set. value_at set (pool_values set old) last) (node_clauses last + sum_by (sum_reached node_clauses old) (parts_of last))
    last-node = record { held = last-held; value = last-value; size = last-sum node_clauses }

  pub var-node : (old new : List PoolNode) (variable : ℕ) (id : NodeId) → new ≡ old ++ node.Var variable ∷ [] → id.0 ≡ length old
      → ((set : List Bool) → pool_values set new ≡ pool_values set old ++ value_at set (pool_values set old) (node.Var variable) ∷ [])
      → IsNodeOf new id (λ set. get_or set variable false) 0
  var-node old new variable id all place values =
      node-says new id (λ set. value_at set (pool_values set old) (node.Var variable)) (λ set. get_or set variable false) 0 0 (last-node old new (node.Var variable) id all place values) (λ set. refl) (omega arith)

  pub not-node : (old new : List PoolNode) (part id : NodeId) (says : List Bool → Bool) (most : ℕ) → new ≡ old ++ node.Not part ∷ [] → id.0 ≡ length old
      → ((set : List Bool) → pool_values set new ≡ pool_values set old ++ value_at set (pool_values set old) (node.Not part) ∷ [])
      → IsNodeOf old part says most → IsNodeOf new id (λ set. not (says set)) most
  not-node old new part id says most all place values n =
      node-says new id (λ set. value_at set (pool_values set old) (node.Not part)) (λ set. not (says set)) (0 + (0 + sum_reached node_clauses old part.0)) most
      (last-node old new (node.Not part) id all place values) (λ set. ap not (n.value set)) (omega (arith, n.size))

  or-last : (x y : Bool) → (x || (y || false)) ≡ (x || y)
  or-last true y = refl
  or-last false true = refl
  or-last false false = refl

  pub any-node : (old new : List PoolNode) (left right id : NodeId) (says other : List Bool → Bool) (most more : ℕ) → new ≡ old ++ node.Any (left ∷ right ∷ []) ∷ [] → id.0 ≡ length old
      → ((set : List Bool) → pool_values set new ≡ pool_values set old ++ value_at set (pool_values set old) (node.Any (left ∷ right ∷ [])) ∷ [])
      → IsNodeOf old left says most → IsNodeOf old right other more → IsNodeOf new id (λ set. says set || other set) (3 + (most + more))
  any-node old new left right id says other most more all place values n m =
      node-says new id (λ set. value_at set (pool_values set old) (node.Any (left ∷ right ∷ []))) (λ set. says set || other set)
      (3 + (sum_reached node_clauses old left.0 + sum_reached node_clauses old right.0)) (3 + (most + more))
      (node-says new id (λ set. value_at set (pool_values set old) (node.Any (left ∷ right ∷ []))) (λ set. value_at set (pool_values set old) (node.Any (left ∷ right ∷ [])))
      (node_clauses (node.Any (left ∷ right ∷ [])) + sum_by (sum_reached node_clauses old) (parts_of (node.Any (left ∷ right ∷ []))))
      (3 + (sum_reached node_clauses old left.0 + sum_reached node_clauses old right.0))
      (last-node old new (node.Any (left ∷ right ∷ [])) id all place values) (λ set. refl) (omega arith))
      (λ set. or-last (get_or (pool_values set old) left.0 false) (get_or (pool_values set old) right.0 false)
      ∙ ap (λ (b : Bool). b || get_or (pool_values set old) right.0 false) (n.value set) ∙ ap (λ (b : Bool). says set || b) (m.value set))
      (omega (arith, n.size, m.size))

  -- a node of a formula
  tree-value : (nodes : List PoolNode) (id : NodeId) (f : Formula) → slice_get (unfolded nodes) id.0 ≡ Some f → (set : List Bool) → get_or (pool_values set nodes) id.0 false ≡ value_of set f
  tree-value nodes id f e set =
      get_or_from_slice_get (pool_values set nodes) id.0 (value_of set f) false (slice_get-map (value_of set) (unfolded nodes) id.0 ∙ ap (λ o. option_map (value_of set) o) e)

  -- not the one, or the other
  pub asks-node : (old one two new : List PoolNode) (place : ℕ) (asked chosen left id : NodeId)
      → one ≡ old ++ node.Var place ∷ [] → chosen.0 ≡ length old → ((set : List Bool) → pool_values set one ≡ pool_values set old ++ value_at set (pool_values set old) (node.Var place) ∷ [])
      → two ≡ one ++ node.Not chosen ∷ [] → left.0 ≡ length one → ((set : List Bool) → pool_values set two ≡ pool_values set one ++ value_at set (pool_values set one) (node.Not chosen) ∷ [])
      → new ≡ two ++ node.Any (left ∷ asked ∷ []) ∷ [] → id.0 ≡ length two
      → ((set : List Bool) → pool_values set new ≡ pool_values set two ++ value_at set (pool_values set two) (node.Any (left ∷ asked ∷ [])) ∷ [])
      → asked.0 < length old → IsNodeOf new id (asks_node old place asked) (3 + sum_reached node_clauses old asked.0)
  asks-node old one two new place asked chosen left id a b c d e f g h k l =
      let whole : Extends old two = extends-more old one two (extends-push old one (node.Var place) a) (extends-push one two (node.Not chosen) d) in
      let first : IsNodeOf old asked (λ set. get_or (pool_values set old) asked.0 false) (sum_reached node_clauses old asked.0) = record { held = l; value = λ set. refl; size = omega arith } in
      node-says new id (λ set. not (get_or set place false) || get_or (pool_values set old) asked.0 false) (asks_node old place asked)
      (3 + (0 + sum_reached node_clauses old asked.0)) (3 + sum_reached node_clauses old asked.0)
      (any-node two new left asked id (λ set. not (get_or set place false)) (λ set. get_or (pool_values set old) asked.0 false) 0 (sum_reached node_clauses old asked.0) g h k
      (not-node one two chosen left (λ set. get_or set place false) 0 d e f (var-node old one place chosen a b c))
      (node-stays old two whole asked (λ set. get_or (pool_values set old) asked.0 false) (sum_reached node_clauses old asked.0) first))
      (λ set. refl) (omega arith)

  pub asks-parts : (old one two new : List PoolNode) (place : ℕ) (asked chosen left id : NodeId) (parts : List NodeId) → parts ≡ left ∷ asked ∷ []
      → one ≡ old ++ node.Var place ∷ [] → chosen.0 ≡ length old → ((set : List Bool) → pool_values set one ≡ pool_values set old ++ value_at set (pool_values set old) (node.Var place) ∷ [])
      → two ≡ one ++ node.Not chosen ∷ [] → left.0 ≡ length one → ((set : List Bool) → pool_values set two ≡ pool_values set one ++ value_at set (pool_values set one) (node.Not chosen) ∷ [])
      → new ≡ two ++ node.Any parts ∷ [] → id.0 ≡ length two
      → ((set : List Bool) → pool_values set new ≡ pool_values set two ++ value_at set (pool_values set two) (node.Any parts) ∷ [])
      → asked.0 < length old → IsNodeOf new id (asks_node old place asked) (3 + sum_reached node_clauses old asked.0)
  asks-parts old one two new place asked chosen left id parts e a b c d f g h k l m =
      asks-node old one two new place asked chosen left id a b c d f g (h ∙ ap (λ (ps : List NodeId). two ++ node.Any ps ∷ []) e) k
      (λ set. l set ∙ ap (λ (ps : List NodeId). pool_values set two ++ value_at set (pool_values set two) (node.Any ps) ∷ []) e) m

  -- a formula as a node
  pub formula-node : (old new : List PoolNode) (place : ℕ) (asked id : NodeId) (f : Formula) → slice_get (unfolded old) asked.0 ≡ Some f → sum_reached node_clauses old asked.0 ≤ clauses_of f
      → IsNodeOf new id (asks_node old place asked) (3 + sum_reached node_clauses old asked.0) → IsNodeOf new id (asks_formula (λ set. value_of set f) place) (3 + clauses_of f)
  formula-node old new place asked id f e l n =
      node-says new id (asks_node old place asked) (asks_formula (λ set. value_of set f) place) (3 + sum_reached node_clauses old asked.0) (3 + clauses_of f) n
      (λ set. ap (λ (b : Bool). not (get_or set place false) || b) (tree-value old asked f e set)) (omega (arith, l))

  -- a variable as a node
  pub variable-node : (old new : List PoolNode) (place lower : ℕ) (asked id : NodeId) → IsNodeOf old asked (λ set. get_or set lower false) 0
      → IsNodeOf new id (asks_node old place asked) (3 + sum_reached node_clauses old asked.0) → IsNodeOf new id (feature_says place (Some lower)) 3
  variable-node old new place lower asked id v n =
      node-says new id (asks_node old place asked) (feature_says place (Some lower)) (3 + sum_reached node_clauses old asked.0) 3 n
      (λ set. ap (λ (b : Bool). not (get_or set place false) || b) (v.value set)) (omega (arith, v.size))

  -- the nodes of declared names stay
  pub presence-stays : (r : Rows) (old new : List PoolNode) (ids : List NodeId) → Extends old new → SayPresence r old ids → SayPresence r new ids
  presence-stays r old new ids e p = record {
    count = p.count;
    held = All-weaker (λ id. id.0 < length old) (λ id. id.0 < length new) (λ id l. extends-length old new e id.0 l) ids p.held;
    each = λ chosen c place id at.
        let same : get_or (pool_values chosen new) id.0 false ≡ get_or (pool_values chosen old) id.0 false = value-stays chosen old new e id.0 (held-at old ids place id at p.held) in
        record { only = λ t. (p.each chosen c place id at).only (sym same ∙ t); all = λ h. same ∙ (p.each chosen c place id at).all h };
  }

  pub bounds-stay : (r : Rows) (old new : List PoolNode) (ids : List NodeId) → Extends old new → SayPresence r old ids → KeepBounds r old ids → KeepBounds r new ids
  bounds-stay r old new ids e p b = record {
    clauses = λ place id origins at o. omega (arith, b.clauses place id origins at o, sum-stays node_clauses old new e id.0 (held-at old ids place id at p.held));
    variables = λ place id origins at o. omega (arith, b.variables place id origins at o, sum-stays node_variables old new e id.0 (held-at old ids place id at p.held));
  }
