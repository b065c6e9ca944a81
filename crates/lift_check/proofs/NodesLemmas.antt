-- Nodes that are put into a pool, one after another, and what they mean.
use Rattle.std.proofs.Common.{◌≡◌, ◌≢◌, ◌∙◌, refl, sym, ap, ℕ, ◌+◌, ◌<◌, max, Bool, true, false, ◌&&◌, ◌||◌, cond, List, [], ◌∷◌, ◌++◌, length, map, All, get_or, Result, Ok, Err, IfOk, ⊎_elim, arith}
use Rattle.std.specs.List.{list_all, list_any}
use Rattle.std.proofs.lemmas.Bool.{cases_eq}
use Rattle.std.proofs.lemmas.List.{get_or_append_left, get_or_push, length-map, length_push, map_push}
use Rattle.std.proofs.lemmas.List.Elements.{All-head, All-push, All-tail, All-weaker}
use Rattle.vkb_formula.specs.Pools.{pool_reach, pool_values, reach_at, unfolded, value_at}
use Rattle.vkb_formula.specs.declared.pool.NodeId.{NodeId}
use Rattle.vkb_formula.specs.declared.pool.PoolNode.{PoolNode}
use Rattle.vkb_formula.specs.declared.pool.PoolNode.TheVariants as node
use Rattle.doc_build.specs.Choices.{Choice}
use Rattle.lift_nodes.specs.Cases.{AreConstant}
use Rattle.lift_check.specs.declared.options.Setting.{Setting}
use Rattle.lift_check.specs.declared.options.Setting.TheVariants.{Fixed, Free, Unset}
use Rattle.lift_check.specs.Keeping.{is_on}
use Rattle.lift_check.specs.Nodes.{AreNodes, HoldsOptions, IsNode, IsPut, Keeps, is_set, node_for}
use Rattle.lift_check.specs.Options.{IsBelow}

-- what putting a node last leaves, by the clauses of the call and the law of a pool
pub IsPut-from : (old new : List PoolNode) (node : PoolNode) (id : NodeId) → ((nodes : List PoolNode) → length (unfolded nodes) ≡ length nodes) → new ≡ old ++ node ∷ [] → id.0 ≡ length old → pool_reach new ≡ max (pool_reach old) (reach_at node)
    → ((choice : Choice) → pool_values choice new ≡ pool_values choice old ++ value_at choice (pool_values choice old) node ∷ []) → IsPut old node new id
IsPut-from old new node id counts pushed place reach values =
    let count : (choice : Choice) → length (pool_values choice old) ≡ length old = λ choice. length-map (unfolded old) _ ∙ counts old in
    record {
      place = place;
      count = ap length pushed ∙ length_push old node;
      reach = reach;
      kept = λ choice other below.
          ap (λ vs. get_or vs other.0 false) (values choice) ∙ get_or_append_left (pool_values choice old) (value_at choice (pool_values choice old) node ∷ []) false other.0 (omega (arith, below, count choice));
      value = λ choice.
          ap (λ vs. get_or vs id.0 false) (values choice) ∙ get_or_push (pool_values choice old) (value_at choice (pool_values choice old) node) false id.0 (count choice ∙ sym place);
    }

pub Keeps-same : (pool : List PoolNode) → Keeps pool pool
Keeps-same pool = record { count = omega arith; reach = omega arith; kept = λ choice node below. refl }

pub Keeps-then : (first second third : List PoolNode) → Keeps first second → Keeps second third → Keeps first third
Keeps-then first second third before after = record {
  count = omega (arith, before.count, after.count);
  reach = omega (arith, before.reach, after.reach);
  kept = λ choice node below. after.kept choice node (omega (arith, below, before.count)) ∙ before.kept choice node below;
}

-- the options' nodes stay
pub HoldsOptions-keeps : (options : ℕ) (old new : List PoolNode) → HoldsOptions options old → Keeps old new → HoldsOptions options new
HoldsOptions-keeps options old new holds keeps = record {
  count = omega (arith, holds.count, keeps.count);
  reach = omega (arith, holds.reach, keeps.reach);
  always = λ choice. keeps.kept choice (record { 0 = 0 }) (omega (arith, holds.count)) ∙ holds.always choice;
  never = λ choice. keeps.kept choice (record { 0 = 1 }) (omega (arith, holds.count)) ∙ holds.never choice;
  each = λ choice option below. keeps.kept choice (record { 0 = option + 2 }) (omega (arith, below, holds.count)) ∙ holds.each choice option below;
}

-- the first two are the constants
pub HoldsOptions-constant : (options : ℕ) (pool : List PoolNode) → HoldsOptions options pool → AreConstant pool (record { always = record { 0 = 0 }; never = record { 0 = 1 } })
HoldsOptions-constant options pool holds = record {
  always_held = omega (arith, holds.count);
  never_held = omega (arith, holds.count);
  always = holds.always;
  never = holds.never;
}

-- a pool of the one true node and one false node
pub HoldsOptions-none : (first second : List PoolNode) (one two : NodeId) → IsPut [] node.Always first one → IsPut first node.Never second two → HoldsOptions 0 second × (length second ≡ 2)
HoldsOptions-none first second one two put then =
    let is_first : one ≡ record { 0 = 0 } = ap (λ n. record { 0 = n }) put.place in
    let is_second : two ≡ record { 0 = 1 } = ap (λ n. record { 0 = n }) (then.place ∙ put.count) in (
      record {
        count = omega (arith, put.count, then.count);
        reach = omega (arith, put.reach, then.reach);
        always = λ choice. then.kept choice (record { 0 = 0 }) (omega (arith, put.count)) ∙ (ap (is_on (pool_values choice first)) (sym is_first) ∙ put.value choice);
        never = λ choice. ap (is_on (pool_values choice second)) (sym is_second) ∙ then.value choice;
        each = λ choice option below. absurd (omega (arith, below));
      },
      omega (arith, put.count, then.count),
    )

-- one option more
pub HoldsOptions-more : (option : ℕ) (old new : List PoolNode) (id : NodeId) → HoldsOptions option old × (length old ≡ option + 2) → IsPut old (node.Var option) new id → HoldsOptions (option + 1) new × (length new ≡ option + 1 + 2)
HoldsOptions-more option old new id holds put =
    let last : id ≡ record { 0 = option + 2 } = ap (λ n. record { 0 = n }) (put.place ∙ holds.1) in (
      record {
        count = omega (arith, put.count, holds.1);
        reach = omega (arith, put.reach, holds.0.reach);
        always = λ choice. put.kept choice (record { 0 = 0 }) (omega (arith, holds.1)) ∙ holds.0.always choice;
        never = λ choice. put.kept choice (record { 0 = 1 }) (omega (arith, holds.1)) ∙ holds.0.never choice;
        each = λ choice other below. ⊎_elim
            (λ here. ap (λ (n : ℕ). is_on (pool_values choice new) (record { 0 = n + 2 })) here ∙ (ap (is_on (pool_values choice new)) (sym last) ∙ (put.value choice ∙ ap (λ n. get_or choice n false) (sym here))))
            (λ apart. let differs : other ≢ option = apart in put.kept choice (record { 0 = other + 2 }) (omega (arith, holds.1)) ∙ holds.0.each choice other (omega arith))
            (cases_eq other option);
      },
      omega (arith, put.count, holds.1),
    )

-- a node that was there means what its value says
pub IsNode-old : (pool : List PoolNode) (node : NodeId) (meant : Choice → Bool) → node.0 < length pool → ((choice : Choice) → is_on (pool_values choice pool) node ≡ meant choice) → IsNode pool pool node meant
IsNode-old pool node meant within is = record { keeps = Keeps-same pool; within = within; value = is }

-- a node that is put last means what its value at the old ones says
pub IsNode-put : (old new : List PoolNode) (node : PoolNode) (id : NodeId) (meant : Choice → Bool) → IsPut old node new id → reach_at node ≡ 0 → ((choice : Choice) → value_at choice (pool_values choice old) node ≡ meant choice) → IsNode old new id meant
IsNode-put old new node id meant put reads is = record {
  keeps = record {
    count = omega (arith, put.count);
    reach = omega (arith, put.reach, reads);
    kept = put.kept;
  };
  within = omega (arith, put.place, put.count);
  value = λ choice. put.value choice ∙ is choice;
}

-- a node whose meaning is told by nodes that were put before it
pub IsNode-then : (first second third : List PoolNode) (id : NodeId) (meant other : Choice → Bool) → Keeps first second → IsNode second third id meant → ((choice : Choice) → meant choice ≡ other choice) → IsNode first third id other
IsNode-then first second third id meant other before is same = record {
  keeps = Keeps-then first second third before is.keeps;
  within = is.within;
  value = λ choice. is.value choice ∙ same choice;
}

map-kept : (old new : List PoolNode) (choice : Choice) (nodes : List NodeId) → Keeps old new → All (λ node. node.0 < length old) nodes → map (is_on (pool_values choice new)) nodes ≡ map (is_on (pool_values choice old)) nodes
map-kept old new choice [] keeps within = refl
map-kept old new choice (n ∷ nodes) keeps within =
    ap (λ v. v ∷ map (is_on (pool_values choice new)) nodes) (keeps.kept choice n (All-head (λ (m : NodeId). m.0 < length old) n nodes within))
    ∙ ap (λ vs. is_on (pool_values choice old) n ∷ vs) (map-kept old new choice nodes keeps (All-tail (λ (m : NodeId). m.0 < length old) n nodes within))

within-kept : (old new : List PoolNode) (nodes : List NodeId) → Keeps old new → All (λ node. node.0 < length old) nodes → All (λ node. node.0 < length new) nodes
within-kept old new nodes keeps within = All-weaker (λ (m : NodeId). m.0 < length old) (λ (m : NodeId). m.0 < length new) (λ m below. omega (arith, below, keeps.count)) nodes within

-- one node more
pub AreNodes-more : (first old new : List PoolNode) (nodes : List NodeId) (id : NodeId) (meant more : Choice → List Bool) (last : Choice → Bool) → AreNodes first old nodes meant → IsNode old new id last → ((choice : Choice) → more choice ≡ meant choice ++ last choice ∷ []) → AreNodes first new (nodes ++ id ∷ []) more
AreNodes-more first old new nodes id meant more last are is same = record {
  keeps = Keeps-then first old new are.keeps is.keeps;
  within = All-push (λ (m : NodeId). m.0 < length new) nodes id (within-kept old new nodes is.keeps are.within) is.within;
  values = λ choice.
      map_push (is_on (pool_values choice new)) nodes id
      ∙ (ap (λ vs. vs ++ is_on (pool_values choice new) id ∷ []) (map-kept old new choice nodes is.keeps are.within ∙ are.values choice)
      ∙ (ap (λ v. meant choice ++ v ∷ []) (is.value choice) ∙ sym (same choice)));
}

list_any-map : {X : Type 0} (p : X → Bool) (xs : List X) → list_any (λ b. b) (map p xs) ≡ list_any p xs
list_any-map p [] = refl
list_any-map p (x ∷ xs) = ap (λ b. p x || b) (list_any-map p xs)

list_all-map : {X : Type 0} (p : X → Bool) (xs : List X) → list_all (λ b. b) (map p xs) ≡ list_all p xs
list_all-map p [] = refl
list_all-map p (x ∷ xs) = ap (λ b. p x && b) (list_all-map p xs)

-- tests that give the same values give the same answer together
pub any-alike : {X Y : Type 0} (p : X → Bool) (q : Y → Bool) (xs : List X) (ys : List Y) → map p xs ≡ map q ys → list_any p xs ≡ list_any q ys
any-alike p q xs ys same = sym (list_any-map p xs) ∙ (ap (list_any (λ b. b)) same ∙ list_any-map q ys)

pub all-alike : {X Y : Type 0} (p : X → Bool) (q : Y → Bool) (xs : List X) (ys : List Y) → map p xs ≡ map q ys → list_all p xs ≡ list_all q ys
all-alike p q xs ys same = sym (list_all-map p xs) ∙ (ap (list_all (λ b. b)) same ∙ list_all-map q ys)

pub both-alike : (a b : Bool) → (a && (b && true)) ≡ (a && b)
both-alike true true = refl
both-alike true false = refl
both-alike false b = refl

-- names and their nodes hold together alike
pub holds-alike : {X Y : Type 0} (any : Bool) (p : X → Bool) (q : Y → Bool) (xs : List X) (ys : List Y) → map p xs ≡ map q ys → cond any (list_any p xs) (list_all p xs) ≡ cond any (list_any q ys) (list_all q ys)
holds-alike true p q xs ys same = any-alike p q xs ys same
holds-alike false p q xs ys same = all-alike p q xs ys same

-- where a node was put, it has this meaning
pub IfOk-put : {E : Type 0} (r : Result NodeId E) (old new : List PoolNode) (node : PoolNode) (meant : Choice → Bool) → IfOk r (IsPut old node new) → reach_at node ≡ 0 → ((choice : Choice) → value_at choice (pool_values choice old) node ≡ meant choice) → IfOk r (λ id. IsNode old new id meant)
IfOk-put (Err e) old new node meant put reads is = tt
IfOk-put (Ok id) old new node meant put reads is = IsNode-put old new node id meant put reads is

-- where a node was put whose part was put before it
pub IfOk-then : {E : Type 0} (r : Result NodeId E) (first second third : List PoolNode) (meant other : Choice → Bool) → Keeps first second → IfOk r (λ id. IsNode second third id meant) → ((choice : Choice) → meant choice ≡ other choice) → IfOk r (λ id. IsNode first third id other)
IfOk-then (Err e) first second third meant other before is same = tt
IfOk-then (Ok id) first second third meant other before is same = IsNode-then first second third id meant other before is same

-- where a line's own condition was put, and then it and those round it
pub IfOk-both : {E : Type 0} (r : Result NodeId E) (first second third : List PoolNode) (around own : NodeId) (meant other : Choice → Bool) → around.0 < length first → IsNode first second own meant
    → IfOk r (λ id. IsNode second third id (λ choice. is_on (pool_values choice second) around && is_on (pool_values choice second) own)) → ((choice : Choice) → meant choice ≡ other choice)
    → IfOk r (λ id. IsNode first third id (λ choice. is_on (pool_values choice first) around && other choice))
IfOk-both r first second third around own meant other within is both same =
    IfOk-then r first second third (λ choice. is_on (pool_values choice second) around && is_on (pool_values choice second) own) (λ choice. is_on (pool_values choice first) around && other choice) is.keeps both (λ choice.
    ap (λ b. b && is_on (pool_values choice second) own) (is.keeps.kept choice around within) ∙ ap (λ b. is_on (pool_values choice first) around && b) (is.value choice ∙ same choice))

-- the node of a name that is this is true where the name is set
pub IsNode-for : (options : ℕ) (pool : List PoolNode) (setting : Setting) → HoldsOptions options pool → IsBelow options setting → IsNode pool pool (node_for setting) (λ choice. is_set choice setting)
IsNode-for options pool Fixed holds below = IsNode-old pool (record { 0 = 0 }) _ (omega (arith, holds.count)) (λ choice. holds.always choice)
IsNode-for options pool Unset holds below = IsNode-old pool (record { 0 = 1 }) _ (omega (arith, holds.count)) (λ choice. holds.never choice)
IsNode-for options pool (Free option) holds below = IsNode-old pool (record { 0 = option.0 + 2 }) _ (omega (arith, below, holds.count)) (λ choice. holds.each choice option.0 below)
