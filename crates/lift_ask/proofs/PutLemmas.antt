-- Nodes that are put over others, one after another.
use Rattle.std.proofs.Common.{◌≡◌, ◌∙◌, refl, sym, ap, subst, ℕ, ◌+◌, ◌<◌, ◌≤◌, max, Bool, not, cond, ◌==◌, ◌&&◌, ◌||◌, List, [], ◌∷◌, ◌++◌, length, take, get_or, All, arith}
use Rattle.std.specs.Prelude.{count_by}
use Rattle.std.specs.List.{AllZip, list_any}
use Rattle.std.proofs.lemmas.List.{take_all, take_more}
use Rattle.std.proofs.lemmas.List.Elements.{All-head, All-nil, All-push, All-tail, All-weaker}
use Rattle.vkb_formula.specs.Pools.{pool_reach, pool_values, reach_at, unfolded, value_at}
use Rattle.vkb_formula.specs.declared.pool.NodeId.{NodeId}
use Rattle.vkb_formula.specs.declared.pool.PoolNode.{PoolNode}
use Rattle.doc_build.proofs.CountLemmas.{count-cons}
use Rattle.lift_nodes.specs.Nodes.{is_true}
use Rattle.lift_survey.specs.declared.Case.{Case}
use Rattle.lift_survey.specs.Growth.{Grows}
use Rattle.lift_survey.specs.Survey.{node_at}
use Rattle.lift_survey.proofs.GrowthLemmas.{Grows-same, Grows-then, put-grows, put-held, put-value}
use Rattle.lift_survey.proofs.IdLemmas.{zip-push}
use Rattle.lift_ask.specs.Questions.{SayEach, SaysOf, is_wrong_by, isnt_one}

-- a node was put last
pub put-says : (old new : List PoolNode) (last : PoolNode) (id : NodeId) → ((nodes : List PoolNode) → length (unfolded nodes) ≡ length nodes) → reach_at last ≡ 0 → new ≡ old ++ last ∷ []
    → id.0 ≡ length old → pool_reach new ≡ max (pool_reach old) (reach_at last) → ((set : List Bool) → pool_values set new ≡ pool_values set old ++ value_at set (pool_values set old) last ∷ [])
    → SaysOf old new (λ set. value_at set (pool_values set old) last) id
put-says old new last id counts closed all place reach values = record {
  grows = put-grows old new last id counts closed all place reach values;
  held = put-held old new last id counts closed all place reach values;
  value = put-value old new last id counts closed all place reach values;
}

-- what it says in other words
pub says-also : (old new : List PoolNode) (says also : List Bool → Bool) (id : NodeId) → ((set : List Bool) → says set ≡ also set) → SaysOf old new says id → SaysOf old new also id
says-also old new says also id same is = record { grows = is.grows; held = is.held; value = λ set. is.value set ∙ same set }

-- ... and over a pool from before, whose nodes it reads
pub says-then : (first second third : List PoolNode) (says also : List Bool → Bool) (id : NodeId) → Grows first second → ((set : List Bool) → says set ≡ also set) → SaysOf second third says id
    → SaysOf first third also id
says-then first second third says also id before same is = record {
  grows = Grows-then first second third before is.grows;
  held = is.held;
  value = λ set. is.value set ∙ same set;
}

-- a pool that grew holds what it held
pub held-still : (old new : List PoolNode) → Grows old new → (nodes : List NodeId) → All (λ node. node.0 < length old) nodes → All (λ node. node.0 < length new) nodes
held-still old new grows nodes held = All-weaker (λ (n : NodeId). n.0 < length old) (λ (n : NodeId). n.0 < length new) (λ n below. omega (arith, below, grows.count)) nodes held

-- ---- values of several nodes

pub any-same : {X : Type 0} (p q : X → Bool) (xs : List X) → All (λ x. p x ≡ q x) xs → list_any p xs ≡ list_any q xs
any-same p q [] same = refl
any-same p q (x ∷ xs) same = or-by (p x) (q x) (list_any p xs) (list_any q xs) (All-head (λ y. p y ≡ q y) x xs same) (any-same p q xs (All-tail (λ y. p y ≡ q y) x xs same))
  where
    or-by : (a b c d : Bool) → a ≡ b → c ≡ d → (a || c) ≡ (b || d)
    or-by a b c d e f = ap (λ (x : Bool). x || c) e ∙ ap (λ (x : Bool). b || x) f

pub count-same : {X : Type 0} (p q : X → Bool) (xs : List X) → All (λ x. p x ≡ q x) xs → count_by p xs ≡ count_by q xs
count-same p q [] same = refl
count-same p q (x ∷ xs) same =
    count-cons p x xs
    ∙ ap (λ (b : Bool). cond b 1 0 + count_by p xs) (All-head (λ y. p y ≡ q y) x xs same)
    ∙ ap (λ (n : ℕ). cond (q x) 1 0 + n) (count-same p q xs (All-tail (λ y. p y ≡ q y) x xs same))
    ∙ sym (count-cons q x xs)

pub any-zip : {X Y : Type 0} (f : X → Bool) (g : Y → Bool) (xs : List X) (ys : List Y) → AllZip (λ x y. g y ≡ f x) xs ys → list_any g ys ≡ list_any f xs
any-zip f g [] [] all = refl
any-zip f g [] (y ∷ ys) all = absurd all
any-zip f g (x ∷ xs) [] all = absurd all
any-zip f g (x ∷ xs) (y ∷ ys) all = ap (λ (b : Bool). b || list_any g ys) all.0 ∙ ap (λ (b : Bool). f x || b) (any-zip f g xs ys all.1)

-- nodes that were held keep their values
pub kept-each : (old new : List PoolNode) → Grows old new → (nodes : List NodeId) (set : List Bool) → All (λ node. node.0 < length old) nodes → All (λ node. is_true new set node ≡ is_true old set node) nodes
kept-each old new grows nodes set held = All-weaker (λ (n : NodeId). n.0 < length old) (λ (n : NodeId). is_true new set n ≡ is_true old set n) (λ n below. grows.kept set n below) nodes held

pub isnt-kept : (old new : List PoolNode) → Grows old new → (nodes : List NodeId) → All (λ node. node.0 < length old) nodes → (set : List Bool) → isnt_one new nodes set ≡ isnt_one old nodes set
isnt-kept old new grows nodes held set = ap (λ (n : ℕ). not (n == 1)) (count-same (is_true new set) (is_true old set) nodes (kept-each old new grows nodes set held))

pub case-kept : (old new : List PoolNode) → Grows old new → (wrong : List NodeId) (case : Case) → All (λ node. node.0 < length old) wrong → case.node.0 < length old → case.id.0 < length wrong
    → (set : List Bool) → is_wrong_by new wrong set case ≡ is_wrong_by old wrong set case
case-kept old new grows wrong case held node within set =
    ap (λ (b : Bool). b && is_true new set (node_at wrong case.id.0)) (grows.kept set case.node node)
    ∙ ap (λ (b : Bool). is_true old set case.node && b) (grows.kept set (node_at wrong case.id.0) (held case.id.0 (record { 0 = 0 }) within))

pub cases-kept : (old new : List PoolNode) → Grows old new → (wrong : List NodeId) (cases : List Case) → All (λ node. node.0 < length old) wrong → All (λ case. case.node.0 < length old) cases
    → All (λ case. case.id.0 < length wrong) cases → (set : List Bool) → list_any (is_wrong_by new wrong set) cases ≡ list_any (is_wrong_by old wrong set) cases
cases-kept old new grows wrong cases held nodes ids set =
    any-same (is_wrong_by new wrong set) (is_wrong_by old wrong set) cases
    (λ k d below. case-kept old new grows wrong (get_or cases k d) held (nodes k d below) (ids k d below) set)

-- ---- a node for each

pub each-none : {X : Type 0} (pool : List PoolNode) (says : X → List Bool → Bool) (things : List X) → SayEach pool pool says (take 0 things) []
each-none pool says things = record { grows = Grows-same pool; held = All-nil (λ (n : NodeId). n.0 < length pool); each = tt }

pub each-more : {X : Type 0} (old mid new : List PoolNode) (says : X → List Bool → Bool) (also : List Bool → Bool) (things : List X) (k : ℕ) (thing : X) (nodes : List NodeId) (node : NodeId)
    → k < length things → thing ≡ get_or things k thing → ((set : List Bool) → also set ≡ says thing set) → SayEach old mid says (take k things) nodes → SaysOf mid new also node
    → SayEach old new says (take (k + 1) things) (nodes ++ node ∷ [])
each-more {X = X} old mid new says also things k thing nodes node below is same before put =
    let taken : take (k + 1) things ≡ take k things ++ thing ∷ [] = take_more things k thing below ∙ ap (λ (t : X). take k things ++ t ∷ []) (sym is) in
    let Now : X → NodeId → Type 0 = λ t n. (set : List Bool) → is_true new set n ≡ says t set in
    record {
      grows = Grows-then old mid new before.grows put.grows;
      held = All-push (λ (n : NodeId). n.0 < length new) nodes node (held-still mid new put.grows nodes before.held) put.held;
      each =
          subst (λ (ts : List X). AllZip Now ts (nodes ++ node ∷ [])) (sym taken)
          (zip-push Now (take k things) nodes thing node (zip-kept (take k things) nodes before.each before.held) (λ set. put.value set ∙ same set));
    }
  where
    zip-kept : (ts : List X) (ns : List NodeId) → AllZip (λ t n. (set : List Bool) → is_true mid set n ≡ says t set) ts ns → All (λ n. n.0 < length mid) ns
        → AllZip (λ t n. (set : List Bool) → is_true new set n ≡ says t set) ts ns
    zip-kept [] [] all held = tt
    zip-kept [] (n ∷ ns) all held = absurd all
    zip-kept (t ∷ ts) [] all held = absurd all
    zip-kept (t ∷ ts) (n ∷ ns) all held =
        ((λ set. put.grows.kept set n (All-head (λ (m : NodeId). m.0 < length mid) n ns held) ∙ all.0 set), zip-kept ts ns all.1 (All-tail (λ (m : NodeId). m.0 < length mid) n ns held))

pub each-all : {X : Type 0} (old new : List PoolNode) (says : X → List Bool → Bool) (things : List X) (nodes : List NodeId) (k : ℕ) → length things ≤ k → SayEach old new says (take k things) nodes
    → SayEach old new says things nodes
each-all {X = X} old new says things nodes k all are = record {
  grows = are.grows;
  held = are.held;
  each = subst (λ (ts : List X). AllZip (λ t n. (set : List Bool) → is_true new set n ≡ says t set) ts nodes) (take_all k things all) are.each;
}

zip-set : {X : Type 0} (pool : List PoolNode) (says : X → List Bool → Bool) (things : List X) (nodes : List NodeId) (set : List Bool) → AllZip (λ t n. (set : List Bool) → is_true pool set n ≡ says t set) things nodes
    → AllZip (λ t n. is_true pool set n ≡ says t set) things nodes
zip-set pool says [] [] set all = tt
zip-set pool says [] (n ∷ ns) set all = absurd all
zip-set pool says (t ∷ ts) [] set all = absurd all
zip-set pool says (t ∷ ts) (n ∷ ns) set all = (all.0 set, zip-set pool says ts ns set all.1)

-- one of them says so
pub each-any : {X : Type 0} (old mid new : List PoolNode) (says : X → List Bool → Bool) (things : List X) (nodes : List NodeId) (node : NodeId) → SayEach old mid says things nodes
    → SaysOf mid new (λ set. list_any (is_true mid set) nodes) node → SaysOf old new (λ set. list_any (λ t. says t set) things) node
each-any {X = X} old mid new says things nodes node each put =
    says-then old mid new (λ set. list_any (is_true mid set) nodes) (λ set. list_any (λ t. says t set) things) node each.grows
    (λ set. any-zip (λ (t : X). says t set) (is_true mid set) things nodes (zip-set mid says things nodes set each.each)) put
