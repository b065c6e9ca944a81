-- Pools and tables of ids that grow.
use Rattle.std.proofs.Common.{◌≡◌, ◌∙◌, refl, sym, ap, inl, inr, ℕ, ◌+◌, ◌<◌, ◌≤◌, max, Bool, true, false, ◌&&◌, List, [], ◌∷◌, ◌++◌, length, get_or, slice_get, arith, append_assoc}
use Rattle.std.specs.Prelude.{is_some, option_map, unwrap_or}
use Rattle.std.proofs.lemmas.Bool.{cases_Bool}
use Rattle.std.proofs.lemmas.List.{append-nil, get_or_append_left, get_or_push, length-append, length-map, length_push}
use Rattle.std.proofs.lemmas.Option.{slice_get-map, unwrap_or-slice_get}
use Rattle.vkb_formula.specs.Formulas.{value_of}
use Rattle.vkb_formula.specs.Names.{place_of, with_name}
use Rattle.vkb_formula.specs.Pools.{Extends, pool_reach, pool_values, reach_at, unfolded, value_at}
use Rattle.vkb_formula.specs.declared.pool.NodeId.{NodeId}
use Rattle.vkb_formula.specs.declared.pool.PoolNode.{PoolNode}
use Rattle.vkb_formula.specs.declared.pool.PoolNode.TheVariants as node
use Rattle.lift_nodes.specs.declared.Constants.{Constants}
use Rattle.lift_nodes.specs.Cases.{AreConstant}
use Rattle.lift_nodes.specs.Nodes.{is_true}
use Rattle.lift_survey.specs.Growth.{Grows, HasMore, IsBoth}

-- ---- pools

pub Grows-same : (pool : List PoolNode) → Grows pool pool
Grows-same pool = record {
  extends = ([], sym (append-nil pool));
  count = omega arith;
  reach = refl;
  kept = λ set id below. refl;
}

pub Grows-then : (first second third : List PoolNode) → Grows first second → Grows second third → Grows first third
Grows-then first second third before after = record {
  extends = (before.extends.0 ++ after.extends.0, after.extends.1 ∙ ap (λ (ns : List PoolNode). ns ++ after.extends.0) before.extends.1 ∙ append_assoc first before.extends.0 after.extends.0);
  count = omega (arith, before.count, after.count);
  reach = after.reach ∙ before.reach;
  kept = λ set id below. after.kept set id (omega (arith, below, before.count)) ∙ before.kept set id below;
}

-- the pool has others behind, and no more is reached
pub Grows-by : (old new : List PoolNode) → ((nodes more : List PoolNode) (place : ℕ) → place < length nodes → slice_get (unfolded (nodes ++ more)) place ≡ slice_get (unfolded nodes) place) → Extends old new
    → pool_reach new ≡ pool_reach old → Grows old new
Grows-by old new stays extends reach = record {
  extends = extends;
  count = omega (arith, ap (λ (ns : List PoolNode). length ns) extends.1, length-append old extends.0);
  reach = reach;
  kept = λ set id below.
      sym (unwrap_or-slice_get (pool_values set new) id.0 false)
      ∙ ap (λ o. unwrap_or o false) (slice_get-map (value_of set) (unfolded new) id.0
      ∙ ap (λ (ns : List PoolNode). option_map (value_of set) (slice_get (unfolded ns) id.0)) extends.1
      ∙ ap (option_map (value_of set)) (stays old extends.0 id.0 below)
      ∙ sym (slice_get-map (value_of set) (unfolded old) id.0))
      ∙ unwrap_or-slice_get (pool_values set old) id.0 false;
}

-- a node was put last
module _ (old new : List PoolNode) (last : PoolNode) (id : NodeId) (counts : (nodes : List PoolNode) → length (unfolded nodes) ≡ length nodes) (closed : reach_at last ≡ 0) (all : new ≡ old ++ last ∷ [])
    (place : id.0 ≡ length old) (reach : pool_reach new ≡ max (pool_reach old) (reach_at last))
    (values : (set : List Bool) → pool_values set new ≡ pool_values set old ++ value_at set (pool_values set old) last ∷ []) where
  count : (set : List Bool) → length (pool_values set old) ≡ length old
  count set = length-map (unfolded old) _ ∙ counts old

  more : length new ≡ length old + 1
  more = ap (λ (ns : List PoolNode). length ns) all ∙ length_push old last

  pub put-grows : Grows old new
  put-grows = record {
    extends = (last ∷ [], all);
    count = omega (arith, more);
    reach = omega (arith, reach, closed);
    kept = λ set other below.
        ap (λ (vs : List Bool). get_or vs other.0 false) (values set)
        ∙ get_or_append_left (pool_values set old) (value_at set (pool_values set old) last ∷ []) false other.0 (omega (arith, below, count set));
  }

  pub put-held : id.0 < length new
  put-held = omega (arith, place, more)

  pub put-value : (set : List Bool) → is_true new set id ≡ value_at set (pool_values set old) last
  put-value set =
      ap (λ (vs : List Bool). get_or vs id.0 false) (values set)
      ∙ get_or_push (pool_values set old) (value_at set (pool_values set old) last) false id.0 (count set ∙ sym place)

and-true : (b : Bool) → (b && true) ≡ b
and-true true = refl
and-true false = refl

pub both-right : (pool : List PoolNode) (left right : NodeId) → left.0 < length pool → ((set : List Bool) → is_true pool set right ≡ true) → IsBoth pool pool left right left
both-right pool left right held is = record {
  held = held;
  value = λ set. sym (ap (λ b. is_true pool set left && b) (is set) ∙ and-true (is_true pool set left));
}

pub both-left : (pool : List PoolNode) (left right : NodeId) → right.0 < length pool → ((set : List Bool) → is_true pool set left ≡ true) → IsBoth pool pool left right right
both-left pool left right held is = record {
  held = held;
  value = λ set. sym (ap (λ b. b && is_true pool set right) (is set));
}

-- a node that is that one
pub same-true : (pool : List PoolNode) (id other : NodeId) → id.0 ≡ other.0 → ((set : List Bool) → is_true pool set other ≡ true) → (set : List Bool) → is_true pool set id ≡ true
same-true pool id other same is set = ap (λ n. get_or (pool_values set pool) n false) same ∙ is set

pub all-of-two : (set values : List Bool) (left right : NodeId) (parts : List NodeId) → parts ≡ left ∷ right ∷ [] → value_at set values (node.All parts) ≡ (get_or values left.0 false && get_or values right.0 false)
all-of-two set values left right parts are =
    ap (λ (ps : List NodeId). value_at set values (node.All ps)) are ∙ ap (λ b. get_or values left.0 false && b) (and-true (get_or values right.0 false))

-- the constants stay
pub constants-grown : (old new : List PoolNode) (constants : Constants) → Grows old new → AreConstant old constants → AreConstant new constants
constants-grown old new constants grows are = record {
  always_held = omega (arith, are.always_held, grows.count);
  never_held = omega (arith, are.never_held, grows.count);
  always = λ set. grows.kept set constants.always are.always_held ∙ are.always set;
  never = λ set. grows.kept set constants.never are.never_held ∙ are.never set;
}

-- ---- ids

pub HasMore-same : (ids : List (List ℕ)) → HasMore ids ids
HasMore-same ids = record { more = []; is = sym (append-nil ids) }

pub HasMore-then : (first second third : List (List ℕ)) → HasMore first second → HasMore second third → HasMore first third
HasMore-then first second third before after = record {
  more = before.more ++ after.more;
  is = after.is ∙ ap (λ (ids : List (List ℕ)). ids ++ after.more) before.is ∙ append_assoc first before.more after.more;
}

pub HasMore-with_name : (name : List ℕ) (ids : List (List ℕ)) → HasMore ids (with_name name ids)
HasMore-with_name name ids =
    elim (cases_Bool (is_some (place_of name ids))) [
      | inl held ↦ record { more = []; is = rw held (sym (append-nil ids)) }
      | inr new ↦ record { more = name ∷ []; is = rw new refl }
    ]

pub ids-count : (old new : List (List ℕ)) → HasMore old new → length old ≤ length new
ids-count old new more = omega (arith, ap (λ (ids : List (List ℕ)). length ids) more.is, length-append old more.more)

pub id-stays : (old new : List (List ℕ)) → HasMore old new → (number : ℕ) → number < length old → get_or new number [] ≡ get_or old number []
id-stays old new more number below = ap (λ (ids : List (List ℕ)). get_or ids number []) more.is ∙ get_or_append_left old more.more [] number below
