-- Putting a tree into a pool, node by node.
use Rattle.std.proofs.Common.{◌≡◌, ℕ, suc, ◌+◌, ◌*◌, ◌<◌, ◌≤◌, max, Bool, true, false, cond, All, Some, slice_get, Result, Ok, Err, IfOk, OnOk, List, [], ◌∷◌, ◌++◌, length, map, slice_index_or, sum_by, refl, sym, ap, subst, ◌∙◌, arith}
use Rattle.std.specs.List.{AllByRecursion}
use Rattle.std.proofs.lemmas.List.{append_assoc, append-nil, length-append, length_push, length-map, map-append}
use Rattle.std.proofs.lemmas.List.Sums.{sum_by-append, sum_by-cons}
use Rattle.std.proofs.lemmas.List.Elements.{All-from_recursion}
use Rattle.std.proofs.lemmas.Bool.{false_from_ne_true, cond_both}
use Rattle.std.proofs.lemmas.Option.{slice_get-get_or}
use Rattle.vkb_formula.specs.Formulas.{reach_of, node_reach, greatest, size_of, node_size, variables_of, node_variables as formula_variables, clauses_of, node_clauses as formula_clauses}
use Rattle.vkb_formula.specs.Pools.{parts_of, formula_at, unfolded, entries_of, pool_size, reach_at, pool_reach, node_variables, node_clauses, reaches, sum_where, sum_reached}
use Rattle.vkb_formula.specs.Trees.{AreFrom, PutsTree, PutsTrees}
use Rattle.vkb_formula.specs.declared.formula.Formula.{Formula}
use Rattle.vkb_formula.specs.declared.formula.Formula.TheVariants as formula
use Rattle.vkb_bytes.specs.declared.memory.Memory.{Memory}
use Rattle.vkb_formula.specs.declared.pool.NodeId.{NodeId}
use Rattle.vkb_formula.specs.declared.pool.PoolNode.{PoolNode}
use Rattle.vkb_formula.specs.declared.pool.PoolNode.TheVariants as node
use Rattle.vkb_formula.proofs.FormulaLemmas.{size-All, size-Any, variables-All, variables-Any, clauses-All, clauses-Any, reach-All, reach-Any, fold-Always, fold-Never, fold-Var, fold-Not}
use Rattle.vkb_formula.proofs.MadeLemmas.{unfolded-old, unfolded-last, length-unfolded, reaches-own}

each-append : {X : Type 0} (P : X → Type 0) (xs ys : List X) → AllByRecursion P xs → AllByRecursion P ys → AllByRecursion P (xs ++ ys)
each-append P [] ys a b = b
each-append P (x ∷ xs) ys a b = (a.0, each-append P xs ys a.1 b)

each-weaker : {X : Type 0} (P Q : X → Type 0) → ((x : X) → P x → Q x) → (xs : List X) → AllByRecursion P xs → AllByRecursion Q xs
each-weaker P Q h [] a = tt
each-weaker P Q h (x ∷ xs) a = (h x a.0, each-weaker P Q h xs a.1)

each-map : {X Y : Type 0} (P : Y → Type 0) (f : X → Y) (xs : List X) → AllByRecursion (λ x. P (f x)) xs → AllByRecursion P (map f xs)
each-map P f [] a = tt
each-map P f (x ∷ xs) a = (a.0, each-map P f xs a.1)

greatest-append : (xs ys : List ℕ) → greatest (xs ++ ys) ≡ max (greatest xs) (greatest ys)
greatest-append [] ys = omega arith
greatest-append (x ∷ xs) ys = omega (arith, greatest-append xs ys)

pub pool_reach-append : (xs ys : List PoolNode) → pool_reach (xs ++ ys) ≡ max (pool_reach xs) (pool_reach ys)
pool_reach-append xs ys = ap greatest (map-append reach_at xs ys) ∙ greatest-append (map reach_at xs) (map reach_at ys)

reach-push : (fs : List Formula) (f : Formula) → greatest (map reach_of (fs ++ f ∷ [])) ≡ max (greatest (map reach_of fs)) (reach_of f)
reach-push fs f =
    ap greatest (map-append reach_of fs (f ∷ [])) ∙ greatest-append (map reach_of fs) (reach_of f ∷ [])
    ∙ (let step : max (greatest (map reach_of fs)) (max (reach_of f) 0) ≡ max (greatest (map reach_of fs)) (reach_of f) = omega arith in step)

from-lower : (low high : ℕ) → low ≤ high → (nodes : List PoolNode) → AreFrom high nodes → AreFrom low nodes
from-lower low high le nodes =
    each-weaker _ _ (λ n. each-weaker (λ part. high ≤ part) (λ part. low ≤ part) (λ part h. omega arith) (parts_of n)) nodes

-- the formulas of nodes stay when others are put last
formulas-old : (nodes more : List PoolNode) (roots : List NodeId) → AllByRecursion (λ root. root.0 < length nodes) roots → map (λ root. slice_index_or (unfolded (nodes ++ more)) root.0 formula.Never) roots ≡ map (λ root. slice_index_or (unfolded nodes) root.0 formula.Never) roots
formulas-old nodes more [] h = refl
formulas-old nodes more (r ∷ rs) h =
    ap (λ f. f ∷ map (λ root. slice_index_or (unfolded (nodes ++ more)) root.0 formula.Never) rs) (unfolded-old nodes more r.0 formula.Never h.0)
    ∙ ap (λ fs. slice_index_or (unfolded nodes) r.0 formula.Never ∷ fs) (formulas-old nodes more rs h.1)

pub no-trees : (old : List PoolNode) → PutsTrees old old [] []
no-trees old = record {
  more = [];
  all = sym (append-nil old);
  own = tt;
  low = tt;
  high = tt;
  unfolds = refl;
  size = refl;
  variables = refl;
  clauses = refl;
  reach = refl;
}

pub more-trees : (old mid new : List PoolNode) (fs : List Formula) (roots : List NodeId) (f : Formula) (root : NodeId) → PutsTrees old mid fs roots → PutsTree mid new f root.0 → PutsTrees old new (fs ++ f ∷ []) (roots ++ root ∷ [])
more-trees old mid new fs roots f root a b =
    let len : length mid ≡ length old + length a.more = ap length a.all ∙ length-append old a.more in
    let len-new : length new ≡ length mid + length b.more = ap length b.all ∙ length-append mid b.more in
    record {
      more = a.more ++ b.more;
      all = b.all ∙ ap (λ nodes. nodes ++ b.more) a.all ∙ append_assoc old a.more b.more;
      own = each-append _ a.more b.more a.own (from-lower (length old) (length mid) (omega arith) b.more b.own);
      low = each-append _ roots (root ∷ []) a.low (omega (arith, b.low), tt);
      high = each-append _ roots (root ∷ []) (each-weaker _ _ (λ (r : NodeId) h. omega arith) roots a.high) (b.high, tt);
      unfolds =
          map-append (λ r. slice_index_or (unfolded new) r.0 formula.Never) roots (root ∷ [])
          ∙ ap (λ front. front ++ slice_index_or (unfolded new) root.0 formula.Never ∷ [])
          (ap (λ nodes. map (λ r. slice_index_or (unfolded nodes) r.0 formula.Never) roots) b.all ∙ formulas-old mid b.more roots a.high ∙ a.unfolds)
          ∙ ap (λ last. fs ++ last ∷ []) b.unfolds;
      size = omega (arith, a.size, b.size, sum_by-append entries_of a.more b.more, sum_by-append size_of fs (f ∷ []), length_push fs f);
      variables = omega (arith, a.variables, b.variables, sum_by-append node_variables a.more b.more, sum_by-append variables_of fs (f ∷ []));
      clauses = omega (arith, a.clauses, b.clauses, sum_by-append node_clauses a.more b.more, sum_by-append clauses_of fs (f ∷ []));
      reach = omega (arith, a.reach, b.reach, pool_reach-append a.more b.more, reach-push fs f);
    }

pub one-tree : (old new : List PoolNode) (f : Formula) (root : NodeId) → PutsTree old new f root.0 → PutsTrees old new (f ∷ []) (root ∷ [])
one-tree old new f root tree = more-trees old old new [] [] f root (no-trees old) tree

-- a node over trees that were put is a tree
module _ (old mid : List PoolNode) (fs : List Formula) (roots : List NodeId) (trees : PutsTrees old mid fs roots) where
  pub group-tree : (top : PoolNode) (f : Formula) → parts_of top ≡ map (λ root. root.0) roots → formula_at (unfolded mid) top ≡ f → size_of f ≡ 1 + sum_by size_of fs → variables_of f ≡ node_variables top + sum_by variables_of fs → clauses_of f ≡ node_clauses top + sum_by clauses_of fs → reach_of f ≡ max (greatest (map reach_of fs)) (reach_at top) → PutsTree old (mid ++ top ∷ []) f (length mid)
  group-tree top f parts is size variables clauses reach =
      let count : length roots ≡ length fs = sym (length-map roots (λ root. slice_index_or (unfolded mid) root.0 formula.Never)) ∙ ap length trees.unfolds in
      let entries : length (parts_of top) ≡ length roots = ap length parts ∙ length-map roots (λ root. root.0) in
      record {
        more = trees.more ++ top ∷ [];
        all = ap (λ nodes. nodes ++ top ∷ []) trees.all ∙ append_assoc old trees.more (top ∷ []);
        own = each-append _ trees.more (top ∷ []) trees.own
            (subst (AllByRecursion (λ part. length old ≤ part)) (sym parts) (each-map (λ part. length old ≤ part) (λ (root : NodeId). root.0) roots trees.low), tt);
        low = omega (arith, ap length trees.all, length-append old trees.more);
        high = omega (arith, length_push mid top);
        unfolds = unfolded-last mid top formula.Never ∙ is;
        size = omega (arith, trees.size, size, count, entries, sum_by-append entries_of trees.more (top ∷ []));
        variables = omega (arith, trees.variables, variables, sum_by-append node_variables trees.more (top ∷ []));
        clauses = omega (arith, trees.clauses, clauses, sum_by-append node_clauses trees.more (top ∷ []));
        reach = omega (arith, trees.reach, reach, pool_reach-append trees.more (top ∷ []));
      }

  pub held-parts : (top : PoolNode) → parts_of top ≡ map (λ root. root.0) roots → All (λ part. part < length mid) (parts_of top)
  held-parts top parts =
      All-from_recursion _ (parts_of top) (subst (AllByRecursion (λ part. part < length mid)) (sym parts) (each-map (λ part. part < length mid) (λ (root : NodeId). root.0) roots trees.high))

  pub all-tree : PutsTree old (mid ++ node.All roots ∷ []) (formula.All fs) (length mid)
  all-tree = group-tree (node.All roots) (formula.All fs) refl (ap formula.All trees.unfolds) (size-All fs)
      (variables-All fs) (omega (arith, clauses-All fs, ap length trees.unfolds, length-map roots (λ root. slice_index_or (unfolded mid) root.0 formula.Never))) (omega (arith, reach-All fs))

  pub any-tree : PutsTree old (mid ++ node.Any roots ∷ []) (formula.Any fs) (length mid)
  any-tree = group-tree (node.Any roots) (formula.Any fs) refl (ap formula.Any trees.unfolds) (size-Any fs)
      (variables-Any fs) (omega (arith, clauses-Any fs, ap length trees.unfolds, length-map roots (λ root. slice_index_or (unfolded mid) root.0 formula.Never))) (omega (arith, reach-Any fs))

pub not-tree : (old mid : List PoolNode) (f : Formula) (root : NodeId) → PutsTree old mid f root.0 → PutsTree old (mid ++ node.Not root ∷ []) (formula.Not f) (length mid)
not-tree old mid f root tree =
    group-tree old mid (f ∷ []) (root ∷ []) (one-tree old mid f root tree) (node.Not root) (formula.Not f) refl (ap formula.Not tree.unfolds)
    (omega (arith, fold-Not node_size f)) (omega (arith, fold-Not formula_variables f)) (omega (arith, fold-Not formula_clauses f)) (omega (arith, fold-Not node_reach f))

pub always-tree : (old : List PoolNode) → PutsTree old (old ++ node.Always ∷ []) formula.Always (length old)
always-tree old =
    group-tree old old [] [] (no-trees old) node.Always formula.Always refl refl (fold-Always node_size) (fold-Always formula_variables) (fold-Always formula_clauses) (fold-Always node_reach)

pub never-tree : (old : List PoolNode) → PutsTree old (old ++ node.Never ∷ []) formula.Never (length old)
never-tree old =
    group-tree old old [] [] (no-trees old) node.Never formula.Never refl refl (fold-Never node_size) (fold-Never formula_variables) (fold-Never formula_clauses) (fold-Never node_reach)

pub var-tree : (old : List PoolNode) (variable : ℕ) → PutsTree old (old ++ node.Var variable ∷ []) (formula.Var variable) (length old)
var-tree old variable =
    group-tree old old [] [] (no-trees old) (node.Var variable) (formula.Var variable) refl refl (fold-Var node_size variable) (fold-Var formula_variables variable) (fold-Var formula_clauses variable) (omega (arith, fold-Var node_reach variable))

-- ---- the sums over what a node reaches

sum_where-none : (weigh : PoolNode → ℕ) (passes : ℕ → Bool) (base place : ℕ) (nodes : List PoolNode) → ((k : ℕ) → passes k ≡ true → base ≤ k) → place + length nodes ≤ base → sum_where weigh passes place nodes ≡ 0
sum_where-none weigh passes base place [] h le = refl
sum_where-none weigh passes base place (n ∷ ns) h le =
    let no : passes place ≡ false = false_from_ne_true (passes place) (λ e. let at : base ≤ place = h place e in omega arith) in
    ap (λ b. cond b (weigh n) 0 + sum_where weigh passes (place + 1) ns) no ∙ (let rest = sum_where-none weigh passes base (place + 1) ns h (omega arith) in omega arith)

sum_where-le : (weigh : PoolNode → ℕ) (passes : ℕ → Bool) (place : ℕ) (nodes : List PoolNode) → sum_where weigh passes place nodes ≤ sum_by weigh nodes
sum_where-le weigh passes place [] = omega arith
sum_where-le weigh passes place (n ∷ ns) =
    cond_both (passes place) (weigh n) 0 (λ x. x + sum_where weigh passes (place + 1) ns ≤ sum_by weigh (n ∷ ns))
    (λ _. omega (arith, sum_by-cons weigh n ns, sum_where-le weigh passes (place + 1) ns)) (λ _. omega (arith, sum_by-cons weigh n ns, sum_where-le weigh passes (place + 1) ns))

pub sum_where-append : (weigh : PoolNode → ℕ) (passes : ℕ → Bool) (place : ℕ) (xs ys : List PoolNode) → sum_where weigh passes place (xs ++ ys) ≡ sum_where weigh passes place xs + sum_where weigh passes (place + length xs) ys
sum_where-append weigh passes place [] ys = ap (λ k. sum_where weigh passes k ys) (let e : place ≡ place + 0 = omega arith in e) ∙ (let e : sum_where weigh passes (place + 0) ys ≡ 0 + sum_where weigh passes (place + 0) ys = omega arith in e)
sum_where-append weigh passes place (x ∷ xs) ys =
    let rest = sum_where-append weigh passes (place + 1) xs ys in
    let at : sum_where weigh passes (place + 1 + length xs) ys ≡ sum_where weigh passes (place + suc (length xs)) ys = ap (λ k. sum_where weigh passes k ys) (let e : place + 1 + length xs ≡ place + suc (length xs) = omega arith in e) in
    omega arith

-- a tree's node reaches nodes of the tree alone
pub tree-reached : (weigh : PoolNode → ℕ) (old new : List PoolNode) (f : Formula) (root n : ℕ) (tree : PutsTree old new f root) → sum_by weigh tree.more ≡ n → sum_reached weigh new root ≤ n
tree-reached weigh old new f root n tree e =
    subst (λ nodes. sum_where weigh (reaches nodes root) 0 nodes ≤ n) (sym tree.all)
    (let from : (k : ℕ) → reaches (old ++ tree.more) root k ≡ true → length old ≤ k = λ k. reaches-own old tree.more tree.own root k tree.low in
    omega (
      arith,
      sum_where-append weigh (reaches (old ++ tree.more) root) 0 old tree.more,
      sum_where-none weigh (reaches (old ++ tree.more) root) (length old) 0 old from (omega arith),
      sum_where-le weigh (reaches (old ++ tree.more) root) (0 + length old) tree.more,
    ))

pub tree-unfolds : (old new : List PoolNode) (f : Formula) (root : ℕ) → PutsTree old new f root → slice_get (unfolded new) root ≡ Some f
tree-unfolds old new f root tree =
    slice_get-get_or (unfolded new) root formula.Never (omega (arith, length-unfolded new, tree.high)) ∙ ap Some tree.unfolds

pub tree-reach : (old new : List PoolNode) (f : Formula) (root : ℕ) → PutsTree old new f root → pool_reach new ≡ max (pool_reach old) (reach_of f)
tree-reach old new f root tree = ap pool_reach tree.all ∙ pool_reach-append old tree.more ∙ ap (max (pool_reach old)) tree.reach

pub tree-size : (old new : List PoolNode) (f : Formula) (root : ℕ) → PutsTree old new f root → pool_size new ≤ pool_size old + 2 * size_of f
tree-size old new f root tree = omega (arith, ap pool_size tree.all, sum_by-append entries_of old tree.more, tree.size)

pub tree-of : {old new : List PoolNode} {root : ℕ} {f g : Formula} → f ≡ g → PutsTree old new g root → PutsTree old new f root
tree-of {old} {new} {root} e tree = subst (λ x. PutsTree old new x root) (sym e) tree

pub trees-of : {old new : List PoolNode} {roots ids : List NodeId} {fs gs : List Formula} → fs ≡ gs → roots ≡ ids → PutsTrees old new gs ids → PutsTrees old new fs roots
trees-of {old} {new} {roots} {ids} {fs} {gs} e h trees = subst (λ x. PutsTrees old new x roots) (sym e) (subst (λ x. PutsTrees old new gs x) (sym h) trees)

-- a call that puts the top of a tree puts the tree
pub put-tree : (old mid new : List PoolNode) (top : PoolNode) (f g : Formula) (r : Result NodeId Memory) → f ≡ g → OnOk r (new ≡ mid ++ top ∷ []) → IfOk r (λ id. id.0 ≡ length mid) → PutsTree old (mid ++ top ∷ []) g (length mid) → IfOk r (λ id. PutsTree old new f id.0)
put-tree old mid new top f g (Err e) same ok place tree = tt
put-tree old mid new top f g (Ok id) same ok place tree =
    subst (λ x. PutsTree old new x id.0) (sym same) (subst (λ x. PutsTree old x g id.0) (sym ok) (subst (λ k. PutsTree old (mid ++ top ∷ []) g k) (sym place) tree))
