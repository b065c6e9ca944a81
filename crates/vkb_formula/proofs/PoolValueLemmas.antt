-- The values of a pool's nodes at a set.
use Rattle.std.proofs.Common.{◌≡◌, ℕ, zero, suc, ◌+◌, ◌<◌, ◌≤◌, Bool, false, not, ◌&&◌, ◌||◌, List, [], ◌∷◌, ◌++◌, length, map, take, Some, get_or, slice_index_or, All, Result, Ok, Err, Vec, IfOk, refl, sym, ap, subst, ◌∙◌, arith}
use Rattle.std.specs.List.{list_all, list_any}
use Rattle.std.specs.Global.{Global}
use Rattle.std.proofs.lemmas.List.{take_more, length-map, length-take-le, map_push, get_or-map}
use Rattle.std.proofs.lemmas.Option.{slice_get-get_or}
use Rattle.vkb_formula.specs.Formulas.{value_of, node_value}
use Rattle.vkb_formula.specs.Pools.{parts_of, IsPool, formula_at, unfolded, pool_values, value_at, reach_at, pool_reach}
use Rattle.vkb_formula.specs.declared.formula.Formula.{Formula}
use Rattle.vkb_formula.specs.declared.formula.Formula.TheVariants as formula
use Rattle.vkb_formula.specs.declared.pool.NodeId.{NodeId}
use Rattle.vkb_formula.specs.declared.pool.PoolNode.{PoolNode}
use Rattle.vkb_formula.specs.declared.pool.PoolNode.TheVariants as node
use Rattle.vkb_formula.proofs.FormulaLemmas.{value-All, value-Any, fold-Always, fold-Never, fold-Var, fold-Not}
use Rattle.vkb_formula.proofs.MadeLemmas.{length-unfolded, unfolded-push}

module _ (set : List Bool) where
  pub value-read : (made : List Formula) (k : ℕ) → value_of set (get_or made k formula.Never) ≡ get_or (map (value_of set) made) k false
  value-read [] k = fold-Never (node_value set)
  value-read (f ∷ fs) zero = refl
  value-read (f ∷ fs) (suc k) = value-read fs k

  values-all : (made : List Formula) (parts : List NodeId) → list_all (value_of set) (map (λ part. slice_index_or made part.0 formula.Never) parts) ≡ list_all (λ part. slice_index_or (map (value_of set) made) part.0 false) parts
  values-all made [] = refl
  values-all made (p ∷ ps) =
      ap (λ b. b && list_all (value_of set) (map (λ part. slice_index_or made part.0 formula.Never) ps)) (value-read made p.0)
      ∙ ap (λ b. get_or (map (value_of set) made) p.0 false && b) (values-all made ps)

  values-any : (made : List Formula) (parts : List NodeId) → list_any (value_of set) (map (λ part. slice_index_or made part.0 formula.Never) parts) ≡ list_any (λ part. slice_index_or (map (value_of set) made) part.0 false) parts
  values-any made [] = refl
  values-any made (p ∷ ps) =
      ap (λ b. b || list_any (value_of set) (map (λ part. slice_index_or made part.0 formula.Never) ps)) (value-read made p.0)
      ∙ ap (λ b. get_or (map (value_of set) made) p.0 false || b) (values-any made ps)

  -- a node's value is that of its formula
  pub value-at : (made : List Formula) (n : PoolNode) → value_of set (formula_at made n) ≡ value_at set (map (value_of set) made) n
  value-at made node.Always = fold-Always (node_value set)
  value-at made node.Never = fold-Never (node_value set)
  value-at made (node.Var variable) = fold-Var (node_value set) variable
  value-at made (node.Not part) = fold-Not (node_value set) (get_or made part.0 formula.Never) ∙ ap not (value-read made part.0)
  value-at made (node.All parts) = value-All set (map (λ part. slice_index_or made part.0 formula.Never) parts) ∙ values-all made parts
  value-at made (node.Any parts) = value-Any set (map (λ part. slice_index_or made part.0 formula.Never) parts) ∙ values-any made parts

  -- a node that is put last has its value from those before it
  pub values-push : (nodes : List PoolNode) (n : PoolNode) → pool_values set (nodes ++ n ∷ []) ≡ pool_values set nodes ++ value_at set (pool_values set nodes) n ∷ []
  values-push nodes n =
      ap (map (value_of set)) (unfolded-push nodes n) ∙ map_push (value_of set) (unfolded nodes) (formula_at (unfolded nodes) n)
      ∙ ap (λ v. pool_values set nodes ++ v ∷ []) (value-at (unfolded nodes) n)

  -- one more node has one more value
  pub values-more : (nodes : List PoolNode) (i : ℕ) (n : PoolNode) (value : Bool) (values new : List Bool) → n ≡ get_or nodes i n → i < length nodes → values ≡ pool_values set (take i nodes) → value ≡ value_at set values n → new ≡ values ++ value ∷ [] → new ≡ pool_values set (take (i + 1) nodes)
  values-more nodes i n value values new is h before gives e =
      e ∙ ap (λ v. values ++ v ∷ []) gives ∙ ap (λ vs. vs ++ value_at set vs n ∷ []) before ∙ sym (values-push (take i nodes) n)
      ∙ ap (pool_values set) (ap (λ x. take i nodes ++ x ∷ []) is ∙ sym (take_more nodes i n h))

-- there are as many values as nodes
pub values-count : {E : Type 0} (set : List Bool) (nodes now : List PoolNode) (r : Result (Vec Bool Global) E) → nodes ≡ now → IfOk r (λ values. values.items ≡ pool_values set nodes) → IfOk r (λ values. length values.items ≡ length now)
values-count set nodes now (Err e) same h = tt
values-count set nodes now (Ok values) same h = ap length h ∙ length-map (unfolded nodes) (value_of set) ∙ length-unfolded nodes ∙ ap length same

-- the parts of a node have values when it is reached
pub parts-before : (nodes : List PoolNode) (i : ℕ) (n : PoolNode) (set values : List Bool) → IsPool nodes → n ≡ get_or nodes i n → i < length nodes → values ≡ pool_values set (take i nodes) → All (λ part. part < length values) (parts_of n)
parts-before nodes i n set values pool is h e =
    let count : length values ≡ i = ap length e ∙ length-map (unfolded (take i nodes)) (value_of set) ∙ length-unfolded (take i nodes) ∙ length-take-le i nodes (omega arith) in
    subst (λ k. All (λ part. part < k) (parts_of n)) (sym count) (pool i n (slice_get-get_or nodes i n h ∙ ap Some (sym is)))

pub reach-place : (nodes : List PoolNode) (i : ℕ) (d : PoolNode) → i < length nodes → reach_at (get_or nodes i d) ≤ pool_reach nodes
reach-place [] i d h = absurd (omega arith)
reach-place (n ∷ ns) zero d h = omega arith
reach-place (n ∷ ns) (suc i) d h = omega (arith, reach-place ns i d (omega arith))

pub reach-node : (nodes : List PoolNode) (i : ℕ) (n : PoolNode) (most : ℕ) → n ≡ get_or nodes i n → i < length nodes → pool_reach nodes ≤ most → reach_at n ≤ most
reach-node nodes i n most is h le = omega (arith, ap reach_at is, reach-place nodes i n h)

pub All-unmap : {X Y : Type 0} (P : Y → Type 0) (f : X → Y) (xs : List X) → All P (map f xs) → All (λ x. P (f x)) xs
All-unmap P f xs h = λ k d lt. subst P (get_or-map f xs k d (f d) lt) (h k (f d) (omega (arith, length-map xs f)))

pub all-parts : (n : PoolNode) (parts now : List NodeId) (count : ℕ) → n ≡ node.All parts → now ≡ parts → All (λ part. part < count) (parts_of n) → All (λ part. part.0 < count) now
all-parts n parts now count is e h =
    subst (All (λ part. part.0 < count)) (sym e) (All-unmap (λ part. part < count) (λ (part : NodeId). part.0) parts (subst (λ m. All (λ part. part < count) (parts_of m)) is h))

pub any-parts : (n : PoolNode) (parts now : List NodeId) (count : ℕ) → n ≡ node.Any parts → now ≡ parts → All (λ part. part < count) (parts_of n) → All (λ part. part.0 < count) now
any-parts n parts now count is e h =
    subst (All (λ part. part.0 < count)) (sym e) (All-unmap (λ part. part < count) (λ (part : NodeId). part.0) parts (subst (λ m. All (λ part. part < count) (parts_of m)) is h))
