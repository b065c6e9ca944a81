-- Nodes that are put into a pool, one after another.
use Rattle.std.proofs.Common.{◌≡◌, ◌≢◌, ◌∙◌, refl, sym, ap, subst, ℕ, ◌+◌, ◌<◌, ◌≤◌, max, Bool, true, false, not, ◌&&◌, ◌||◌, List, [], ◌∷◌, ◌++◌, length, map, take, All, get_or, slice_get, Some, Option, Result, Ok, Err, IfOk, OnOk, OnErr, ⊎_elim, arith}
use Rattle.std.specs.Prelude.{sum_by, unwrap_or, option_map}
use Rattle.std.specs.List.{list_all, list_any}
use Rattle.std.proofs.lemmas.Bool.{cases_eq}
use Rattle.std.proofs.lemmas.List.{append-nil, append_assoc, get_or-map, get_or_append_left, get_or_push, length-append, length-map, length_push}
use Rattle.std.proofs.lemmas.List.Elements.{All-cons, All-get_or, All-head, All-map, All-tail}
use Rattle.std.proofs.lemmas.List.Sums.{sum_by-cons, sum_by_more}
use Rattle.std.proofs.lemmas.Option.{slice_get-get_or, slice_get-map, unwrap_or-slice_get}
use Rattle.vkb_formula.specs.Formulas.{clauses_of, value_of}
use Rattle.vkb_formula.specs.Pools.{Extends, entries_of, node_clauses, parts_of, pool_reach, pool_size, pool_values, reach_at, sum_reached, unfolded, value_at}
use Rattle.vkb_formula.specs.declared.formula.Formula.{Formula}
use Rattle.vkb_formula.specs.declared.pool.NodeId.{NodeId}
use Rattle.vkb_formula.specs.declared.pool.PoolNode.{PoolNode}
use Rattle.vkb_formula.specs.declared.pool.PoolNode.TheVariants as node
use Rattle.reg_registry.specs.declared.registry.Block.{Block}
use Rattle.reg_closure.specs.Closure.{is_active}
use Rattle.reg_closure.specs.Made.{AreMade, Grows, IsMade, IsPut, Keeps, block_cost, block_is, block_raise, cost, cost_at, first_node, free, is_true, node_at, option_is}

pub Keeps-same : (pool : List PoolNode) → Keeps pool pool
Keeps-same pool = record {
  extends = ([], sym (append-nil pool));
  count = omega arith;
  kept = λ chosen id below. refl;
  costs = λ id below. refl;
  stays = λ place below. refl;
}

pub Keeps-then : (first second third : List PoolNode) → Keeps first second → Keeps second third → Keeps first third
Keeps-then first second third before after = record {
  extends = (
    before.extends.0 ++ after.extends.0,
    after.extends.1 ∙ ap (λ ns. ns ++ after.extends.0) before.extends.1 ∙ append_assoc first before.extends.0 after.extends.0,
  );
  count = omega (arith, before.count, after.count);
  kept = λ chosen id below. after.kept chosen id (omega (arith, below, before.count)) ∙ before.kept chosen id below;
  costs = λ id below. after.costs id (omega (arith, below, before.count)) ∙ before.costs id below;
  stays = λ place below. after.stays place (omega (arith, below, before.count)) ∙ before.stays place below;
}

pub Grows-then : (first second third : List PoolNode) (one two all few many options : ℕ) → Grows first second one few → Grows second third two many → one + two ≤ all → few ≤ options → many ≤ options
    → Grows first third all options
Grows-then first second third one two all few many options before after fits less less' = record {
  size = omega (arith, before.size, after.size, fits);
  reach = omega (arith, before.reach, after.reach, less, less');
}

pub IsMade-keeps : (old new : List PoolNode) (id : NodeId) (meant : List Bool → Bool) (most : ℕ) → Keeps old new → IsMade old id meant most → IsMade new id meant most
IsMade-keeps old new id meant most keeps made = record {
  held = omega (arith, made.held, keeps.count);
  says = λ chosen. keeps.kept chosen id made.held ∙ made.says chosen;
  takes = omega (arith, keeps.costs id made.held, made.takes);
}

pub IsMade-same : (nodes : List PoolNode) (id : NodeId) (meant other : List Bool → Bool) (most more : ℕ) → IsMade nodes id meant most → ((chosen : List Bool) → meant chosen ≡ other chosen) → most ≤ more → IsMade nodes id other more
IsMade-same nodes id meant other most more made same fits = record {
  held = made.held;
  says = λ chosen. made.says chosen ∙ same chosen;
  takes = omega (arith, made.takes, fits);
}

pub AreMade-keeps : (many : ℕ) (old new : List PoolNode) (ids : List NodeId) (meant : ℕ → List Bool → Bool) (most : ℕ → ℕ) → Keeps old new → AreMade many old ids meant most → AreMade many new ids meant most
AreMade-keeps many old new ids meant most keeps made = record {
  count = made.count;
  each = λ place below. IsMade-keeps old new (node_at ids place) (meant place) (most place) keeps (made.each place below);
}

-- one node more
pub AreMade-more : (many : ℕ) (old new : List PoolNode) (ids : List NodeId) (id : NodeId) (meant : ℕ → List Bool → Bool) (most : ℕ → ℕ) → Keeps old new → AreMade many old ids meant most → IsMade new id (meant many) (most many)
    → AreMade (many + 1) new (ids ++ id ∷ []) meant most
AreMade-more many old new ids id meant most keeps made last =
    let kept = AreMade-keeps many old new ids meant most keeps made in
    let made-at = λ (place : ℕ) (other : NodeId). IsMade new other (meant place) (most place) in
    record {
      count = length_push ids id ∙ ap (λ n. n + 1) made.count;
      each = λ place below. ⊎_elim
          (λ (here : place ≡ many). subst (λ n. made-at n (node_at (ids ++ id ∷ []) n)) (sym here)
          (subst (made-at many) (sym (get_or_push ids id first_node many made.count)) last))
          (λ (apart : place ≡ many → ⊥). let differs : place ≢ many = apart in
          subst (made-at place) (sym (get_or_append_left ids (id ∷ []) first_node place (omega (arith, below, made.count)))) (kept.each place (omega arith)))
          (cases_eq place many);
    }

slice_get-left : {X : Type 0} (xs ys : List X) (place : ℕ) → place < length xs → slice_get (xs ++ ys) place ≡ slice_get xs place
slice_get-left [] ys place below = absurd (omega arith)
slice_get-left (x ∷ xs) ys place below =
    slice_get-get_or (x ∷ xs ++ ys) place x (omega (arith, length-append (x ∷ xs) ys, below)) ∙ ap Some (get_or_append_left (x ∷ xs) ys x place below) ∙ sym (slice_get-get_or (x ∷ xs) place x below)

slice_get-last : {X : Type 0} (xs : List X) (x : X) (place : ℕ) → place ≡ length xs → slice_get (xs ++ x ∷ []) place ≡ Some x
slice_get-last xs x place here =
    slice_get-get_or (xs ++ x ∷ []) place x (omega (arith, length_push xs x, here)) ∙ ap Some (get_or_push xs x x place (sym here))

-- a node's value is that of its formula
value-read : (nodes : List PoolNode) (chosen : List Bool) (place : ℕ) → get_or (pool_values chosen nodes) place false ≡ unwrap_or (option_map (value_of chosen) (slice_get (unfolded nodes) place)) false
value-read nodes chosen place =
    sym (unwrap_or-slice_get (pool_values chosen nodes) place false) ∙ ap (λ o. unwrap_or o false) (slice_get-map (value_of chosen) (unfolded nodes) place)

-- what putting nodes leaves, by the laws of pools
module _
    (formulas : (nodes more : List PoolNode) (place : ℕ) → place < length nodes → slice_get (unfolded (nodes ++ more)) place ≡ slice_get (unfolded nodes) place)
    (counts : (nodes : List PoolNode) → length (unfolded nodes) ≡ length nodes)
    (sums : (nodes more : List PoolNode) (root : ℕ) (weigh : PoolNode → ℕ) → root < length nodes → sum_reached weigh (nodes ++ more) root ≡ sum_reached weigh nodes root)
    (shared : (nodes : List PoolNode) (last : PoolNode) (weigh : PoolNode → ℕ) → sum_reached weigh (nodes ++ last ∷ []) (length nodes) ≤ weigh last + sum_by (sum_reached weigh nodes) (parts_of last))
  where
    pub Keeps-extends : (old new : List PoolNode) → Extends old new → Keeps old new
    Keeps-extends old new extends =
        let more = extends.0 in
        record {
          extends = extends;
          count = omega (arith, ap length extends.1, length-append old more);
          kept = λ chosen id below.
              ap (λ ns. is_true ns chosen id) extends.1
              ∙ (value-read (old ++ more) chosen id.0
              ∙ (ap (λ (o : Option Formula). unwrap_or (option_map (value_of chosen) o) false) (formulas old more id.0 below) ∙ sym (value-read old chosen id.0)));
          costs = λ id below. ap (λ ns. cost ns id) extends.1 ∙ sums old more id.0 node_clauses below;
          stays = λ place below. ap (λ ns. slice_get ns place) extends.1 ∙ slice_get-left old more place below;
        }

    IsPut-from : (old new : List PoolNode) (last : PoolNode) (id : NodeId) → new ≡ old ++ last ∷ [] → id.0 ≡ length old → pool_reach new ≡ max (pool_reach old) (reach_at last) → pool_size new ≡ pool_size old + entries_of last
        → ((chosen : List Bool) → pool_values chosen new ≡ pool_values chosen old ++ value_at chosen (pool_values chosen old) last ∷ []) → IsPut old last new id
    IsPut-from old new last id put place reach size values = record {
      there = ap (λ ns. slice_get ns id.0) put ∙ slice_get-last old last id.0 place;
      made = record {
        held = omega (arith, ap length put, length_push old last, place);
        says = λ chosen.
            ap (λ vs. get_or vs id.0 false) (values chosen)
            ∙ get_or_push (pool_values chosen old) (value_at chosen (pool_values chosen old) last) false id.0 (length-map (unfolded old) (value_of chosen) ∙ counts old ∙ sym place);
        takes = omega (arith, ap (λ (ns : List PoolNode). sum_reached node_clauses ns id.0) put, ap (λ (n : ℕ). sum_reached node_clauses (old ++ last ∷ []) n) place, shared old last node_clauses);
      };
      size = size;
      reach = reach;
    }

    pub put-made : {E : Type 0} (r : Result NodeId E) (old new : List PoolNode) (last : PoolNode) → OnOk r (new ≡ old ++ last ∷ []) → IfOk r (λ id. id.0 ≡ length old) → OnOk r (pool_reach new ≡ max (pool_reach old) (reach_at last))
        → OnOk r (pool_size new ≡ pool_size old + entries_of last) → OnOk r ((chosen : List Bool) → pool_values chosen new ≡ pool_values chosen old ++ value_at chosen (pool_values chosen old) last ∷ []) → IfOk r (IsPut old last new)
    put-made (Err e) old new last put place reach size values = tt
    put-made (Ok id) old new last put place reach size values = IsPut-from old new last id put place reach size values

    pub put-keeps : {E : Type 0} (r : Result NodeId E) (old new : List PoolNode) (last : PoolNode) → OnOk r (new ≡ old ++ last ∷ []) → OnErr r (new ≡ old) → Keeps old new
    put-keeps (Err e) old new last put err = subst (Keeps old) (sym err) (Keeps-same old)
    put-keeps (Ok id) old new last put err = Keeps-extends old new (last ∷ [], put)

-- what putting a formula leaves
pub tree-made : {E : Type 0} (r : Result NodeId E) (new : List PoolNode) (f : Formula) → IfOk r (λ id. slice_get (unfolded new) id.0 ≡ Some f) → IfOk r (λ id. id.0 < length new)
    → IfOk r (λ id. sum_reached node_clauses new id.0 ≤ clauses_of f) → IfOk r (λ id. IsMade new id (λ chosen. value_of chosen f) (clauses_of f))
tree-made (Err e) new f unfolds held clauses = tt
tree-made (Ok id) new f unfolds held clauses = record {
  held = held;
  says = λ chosen. value-read new chosen id.0 ∙ ap (λ (o : Option Formula). unwrap_or (option_map (value_of chosen) o) false) unfolds;
  takes = clauses;
}

-- ---- the nodes of parts

pub list_any-map : {X Y : Type 0} (p : Y → Bool) (h : X → Y) (xs : List X) → list_any p (map h xs) ≡ list_any (λ x. p (h x)) xs
list_any-map p h [] = refl
list_any-map p h (x ∷ xs) = ap (λ b. p (h x) || b) (list_any-map p h xs)

pub sum_by-map : {X Y : Type 0} (f : Y → ℕ) (h : X → Y) (xs : List X) → sum_by f (map h xs) ≡ sum_by (λ x. f (h x)) xs
sum_by-map f h [] = refl
sum_by-map f h (x ∷ xs) = sum_by-cons f (h x) (map h xs) ∙ (ap (λ n. f (h x) + n) (sum_by-map f h xs) ∙ sym (sum_by-cons (λ y. f (h y)) x xs))

pub IfOk-map : {A E : Type 0} (r : Result A E) (P Q : A → Type 0) → ((x : A) → P x → Q x) → IfOk r P → IfOk r Q
IfOk-map (Err e) P Q then h = tt
IfOk-map (Ok x) P Q then h = then x h

-- the nodes at places are there
nodes-held : (count : ℕ) (ids : List NodeId) (places : List ℕ) → All (λ id. id.0 < count) ids → All (λ place. place < length ids) places → All (λ id. id.0 < count) (map (node_at ids) places)
nodes-held count ids places held within =
    All-map (λ (id : NodeId). id.0 < count) (node_at ids) places (λ k d below. All-get_or (λ (id : NodeId). id.0 < count) ids (get_or places k d) first_node (within k d below) held)

pub parts-held : (count : ℕ) (ids : List NodeId) (places : List ℕ) (parts : List NodeId) → parts ≡ map (node_at ids) places → All (λ id. id.0 < count) ids → All (λ place. place < length ids) places
    → All (λ part. part < count) (map (λ part. part.0) parts)
parts-held count ids places parts are held within =
    All-map (λ (n : ℕ). n < count) (λ (part : NodeId). part.0) parts (subst (All (λ (id : NodeId). id.0 < count)) (sym are) (nodes-held count ids places held within))

pub named-held : (count : ℕ) (root : NodeId) (ids : List NodeId) (places : List ℕ) (parts : List NodeId) → parts ≡ root ∷ map (node_at ids) places → root.0 < count → All (λ id. id.0 < count) ids → All (λ place. place < length ids) places
    → All (λ part. part < count) (map (λ part. part.0) parts)
named-held count root ids places parts are first held within =
    All-map (λ (n : ℕ). n < count) (λ (part : NodeId). part.0) parts
    (subst (All (λ (id : NodeId). id.0 < count)) (sym are) (All-cons (λ (id : NodeId). id.0 < count) root (map (node_at ids) places) first (nodes-held count ids places held within)))

pub any-made : (old new : List PoolNode) (id : NodeId) (ids : List NodeId) (places : List ℕ) (parts : List NodeId) → parts ≡ map (node_at ids) places → IsPut old (node.Any parts) new id
    → IsMade new id (λ chosen. list_any (λ place. is_true old chosen (node_at ids place)) places) (1 + length places + sum_by (λ place. cost old (node_at ids place)) places)
any-made old new id ids places parts are put =
    IsMade-same new id (λ chosen. value_at chosen (pool_values chosen old) (node.Any parts)) _ _ _ put.made
    (λ chosen. ap (list_any (is_true old chosen)) are ∙ list_any-map (is_true old chosen) (node_at ids) places)
    (omega (
      arith,
      ap length are,
      length-map places (node_at ids),
      sum_by-map (sum_reached node_clauses old) (λ (part : NodeId). part.0) parts,
      ap (sum_by (λ (part : NodeId). cost old part)) are,
      sum_by-map (λ (part : NodeId). cost old part) (node_at ids) places,
    ))

both-alike : (a b : Bool) → (a && (b && true)) ≡ (a && b)
both-alike true true = refl
both-alike true false = refl
both-alike false b = refl

pub both-made : (old new : List PoolNode) (id left right : NodeId) (parts : List NodeId) → parts ≡ left ∷ right ∷ [] → IsPut old (node.All parts) new id
    → IsMade new id (λ chosen. is_true old chosen left && is_true old chosen right) (3 + (cost old left + cost old right))
both-made old new id left right parts are put =
    IsMade-same new id (λ chosen. value_at chosen (pool_values chosen old) (node.All parts)) _ _ _ put.made
    (λ chosen. ap (list_all (is_true old chosen)) are ∙ both-alike (is_true old chosen left) (is_true old chosen right))
    (omega (arith, ap length are, sum_by-map (sum_reached node_clauses old) (λ (part : NodeId). part.0) parts, ap (sum_by (λ (part : NodeId). cost old part)) are))

-- a node is true where the option of a block is chosen and what the block depends on holds
pub block-made : (old mid new : List PoolNode) (options : List NodeId) (b : Block) (left depends id : NodeId) → left ≡ node_at options b.owner → AreMade (length options) old options option_is free → b.owner < length options → Keeps old mid
    → IsMade mid depends (λ chosen. value_of chosen b.depends) (clauses_of b.depends)
    → IsMade new id (λ chosen. is_true mid chosen left && is_true mid chosen depends) (3 + (cost mid left + cost mid depends)) → IsMade new id (λ chosen. is_active chosen b) (block_cost b)
block-made old mid new options b left depends id is made below keeps holds both =
    let owner = subst (λ (n : NodeId). IsMade mid n (option_is b.owner) 0) (sym is) (IsMade-keeps old mid (node_at options b.owner) (option_is b.owner) 0 keeps (made.each b.owner below)) in
    IsMade-same new id _ (λ chosen. is_active chosen b) _ (block_cost b) both
    (λ chosen. ap (λ v. v && is_true mid chosen depends) (owner.says chosen) ∙ ap (λ v. option_is b.owner chosen && v) (holds.says chosen))
    (omega (arith, owner.takes, holds.takes))

-- what a list of nodes says and takes stays
any-kept : (old new : List PoolNode) (ids : List NodeId) (places : List ℕ) → All (λ n. n.0 < length old) ids → All (λ place. place < length ids) places → Keeps old new
    → ((chosen : List Bool) → list_any (λ place. is_true new chosen (node_at ids place)) places ≡ list_any (λ place. is_true old chosen (node_at ids place)) places)
    × (sum_by (λ place. cost new (node_at ids place)) places ≡ sum_by (λ place. cost old (node_at ids place)) places)
any-kept old new ids [] held within keeps = (λ chosen. refl, refl)
any-kept old new ids (p ∷ ps) held within keeps =
    let rest = any-kept old new ids ps held (All-tail (λ (place : ℕ). place < length ids) p ps within) keeps in
    let here = All-get_or (λ (n : NodeId). n.0 < length old) ids p first_node (All-head (λ (place : ℕ). place < length ids) p ps within) held in (
      λ chosen. ap (λ v. v || list_any (λ place. is_true new chosen (node_at ids place)) ps) (keeps.kept chosen (node_at ids p) here) ∙ ap (λ v. is_true old chosen (node_at ids p) || v) (rest.0 chosen),
      sum_by-cons (λ place. cost new (node_at ids place)) p ps ∙ (ap (λ n. n + sum_by (λ place. cost new (node_at ids place)) ps) (keeps.costs (node_at ids p) here)
          ∙ (ap (λ n. cost old (node_at ids p) + n) rest.1 ∙ sym (sum_by-cons (λ place. cost old (node_at ids place)) p ps))),
    )

sum_by-one : {X : Type 0} (f : X → ℕ) (x : X) → sum_by f (x ∷ []) ≡ f x
sum_by-one f x = omega (arith, sum_by-cons f x [])

-- a node is true where one of some nodes is, and none of some others
pub root-made : (old one two three new : List PoolNode) (ids : List NodeId) (requirers removers : List ℕ) (required removed left id : NodeId) → All (λ n. n.0 < length old) ids → All (λ place. place < length ids) requirers
    → All (λ place. place < length ids) removers → Keeps old one → Keeps one two → Keeps two three
    → IsMade one required (λ chosen. list_any (λ place. is_true old chosen (node_at ids place)) requirers) (1 + length requirers + sum_by (λ place. cost old (node_at ids place)) requirers)
    → IsMade two removed (λ chosen. list_any (λ place. is_true one chosen (node_at ids place)) removers) (1 + length removers + sum_by (λ place. cost one (node_at ids place)) removers)
    → IsPut two (node.Not removed) three left
    → IsMade new id (λ chosen. is_true three chosen required && is_true three chosen left) (3 + (cost three required + cost three left))
    → IsMade new id (λ chosen. list_any (λ place. is_true old chosen (node_at ids place)) requirers && not (list_any (λ place. is_true old chosen (node_at ids place)) removers))
    (5 + (length requirers + sum_by (λ place. cost old (node_at ids place)) requirers) + (length removers + sum_by (λ place. cost old (node_at ids place)) removers))
root-made old one two three new ids requirers removers required removed left id held first second keeps keeps' keeps'' adds takes off both =
    let adds' = IsMade-keeps one three required _ _ (Keeps-then one two three keeps' keeps'') adds in
    let same = any-kept old one ids removers held second keeps in
    IsMade-same new id _ _ _ _ both
    (λ chosen. ap (λ v. v && is_true three chosen left) (adds'.says chosen)
    ∙ ap (λ v. list_any (λ place. is_true old chosen (node_at ids place)) requirers && v) (off.made.says chosen ∙ ap not (takes.says chosen ∙ same.0 chosen)))
    (omega (arith, adds'.takes, off.made.takes, takes.takes, same.1, sum_by-one (sum_reached node_clauses two) removed.0))

pub option-made : (old new : List PoolNode) (id : NodeId) (option : ℕ) → IsPut old (node.Var option) new id → IsMade new id (option_is option) (free option)
option-made old new id option put = IsMade-same new id (λ chosen. value_at chosen (pool_values chosen old) (node.Var option)) (option_is option) _ 0 put.made (λ chosen. refl) (omega arith)

pub option-grows : (first old new : List PoolNode) (id : NodeId) (option : ℕ) → Grows first old option option → IsPut old (node.Var option) new id → Grows first new (option + 1) (option + 1)
option-grows first old new id option before put = record {
  size = omega (arith, before.size, put.size);
  reach = omega (arith, before.reach, put.reach);
}

-- the node of a block, told by its place
pub block-here : (new : List PoolNode) (id : NodeId) (blocks : List Block) (i : ℕ) (b : Block) → b ≡ get_or blocks i b → i < length blocks → IsMade new id (λ chosen. is_active chosen b) (block_cost b)
    → IsMade new id (block_is blocks i) (cost_at blocks i)
block-here new id blocks i b is below made =
    IsMade-same new id (λ chosen. is_active chosen b) (block_is blocks i) (block_cost b) (cost_at blocks i) made
    (λ chosen. ap (is_active chosen) is ∙ sym (get_or-map (is_active chosen) blocks i b false below))
    (omega (arith, ap block_cost is, get_or-map block_cost blocks i b 0 below))

pub block-grows : (first old new : List PoolNode) (blocks : List Block) (i : ℕ) (b : Block) (options : ℕ) → b ≡ get_or blocks i b → i < length blocks → Grows first old (sum_by block_raise (take i blocks)) options
    → Grows old new (block_raise b) options → Grows first new (sum_by block_raise (take (i + 1) blocks)) options
block-grows first old new blocks i b options is below before after =
    Grows-then first old new (sum_by block_raise (take i blocks)) (block_raise b) (sum_by block_raise (take (i + 1) blocks)) options options options before after
    (omega (arith, sum_by_more block_raise blocks i b below, ap block_raise is)) (omega arith) (omega arith)
