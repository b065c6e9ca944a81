-- Pools that grow by nodes over some of their own: one put, and several behind one another.
use Rattle.std.proofs.Common.{◌≡◌, ◌⊎◌, ◌∙◌, refl, sym, ap, subst, inl, inr, ⊎_elim, ℕ, ◌+◌, ◌<◌, ◌≤◌, max, Bool, true, false, not, ◌&&◌, ◌||◌, List, [], ◌∷◌, ◌++◌, length, get_or, slice_get, Some, All, Contains, sum_by, arith}
use Rattle.std.proofs.lemmas.Bool.{cases_order}
use Rattle.std.proofs.lemmas.List.{append-nil, append_assoc, get_or_append_left, get_or_push, length-append, length-map, length_push}
use Rattle.std.proofs.lemmas.List.Elements.{All-cons, All-nil, All-contains, All-contains_itself, All-weaker}
use Rattle.std.proofs.lemmas.List.Sums.{sum_by_push}
use Rattle.std.proofs.lemmas.Option.{same_Some, slice_get-get_or, slice_get_within}
use Rattle.vkb_formula.specs.Pools.{Extends, entries_of, node_clauses, node_variables, parts_of, pool_reach, pool_size, pool_values, reach_at, unfolded, value_at}
use Rattle.vkb_formula.specs.declared.pool.NodeId.{NodeId}
use Rattle.vkb_formula.specs.declared.pool.PoolNode.{PoolNode}
use Rattle.vkb_formula.specs.declared.pool.PoolNode.TheVariants as node
use Rattle.lift_nodes.specs.Nodes.{is_true}
use Rattle.lift_nodes.specs.Putting.{IsBuilt, IsGrown, IsPart, IsPut}

-- ---- lists that go on

pub slice_get-stays : (old new : List PoolNode) → Extends old new → (place : ℕ) → place < length old → slice_get new place ≡ slice_get old place
slice_get-stays old new e place below =
    slice_get-get_or new place node.Never (omega (arith, below, ap (λ (ns : List PoolNode). length ns) e.1, length-append old e.0))
    ∙ ap Some (ap (λ (ns : List PoolNode). get_or ns place node.Never) e.1 ∙ get_or_append_left old e.0 node.Never place below)
    ∙ sym (slice_get-get_or old place node.Never below)

pub slice_get-last : (old new : List PoolNode) (last : PoolNode) → new ≡ old ++ last ∷ [] → slice_get new (length old) ≡ Some last
slice_get-last old new last all =
    slice_get-get_or new (length old) node.Never (omega (arith, ap (λ (ns : List PoolNode). length ns) all, length_push old last))
    ∙ ap Some (ap (λ (ns : List PoolNode). get_or ns (length old) node.Never) all ∙ get_or_push old last node.Never (length old) refl)

pub extends-itself : (old : List PoolNode) → Extends old old
extends-itself old = ([], sym (append-nil old))

-- ---- one node

-- what the call `put` of a pool says, by its clauses and the law of a pool
pub put-from : (old new : List PoolNode) (last : PoolNode) (id : NodeId) → ((nodes : List PoolNode) → length (unfolded nodes) ≡ length nodes) → reach_at last ≡ 0 → new ≡ old ++ last ∷ [] → id.0 ≡ length old
    → pool_reach new ≡ max (pool_reach old) (reach_at last) → pool_size new ≡ pool_size old + entries_of last
    → ((set : List Bool) → pool_values set new ≡ pool_values set old ++ value_at set (pool_values set old) last ∷ []) → IsPut old last new id
put-from old new last id counts closed all place reach size values =
    let count : (set : List Bool) → length (pool_values set old) ≡ length old = λ set. length-map (unfolded old) _ ∙ counts old in
    let more : length new ≡ length old + 1 = ap (λ (ns : List PoolNode). length ns) all ∙ length_push old last in
    record {
      place = place;
      held = omega (arith, place, more);
      grown = record {
        extends = (last ∷ [], all);
        count = omega (arith, more);
        kept = λ set other below.
            ap (λ (vs : List Bool). get_or vs other.0 false) (values set)
            ∙ get_or_append_left (pool_values set old) (value_at set (pool_values set old) last ∷ []) false other.0 (omega (arith, below, count set));
        parts = λ at other behind here.
            let last-place : at ≡ length old = omega (arith, behind, slice_get_within new at other here, more) in
            let same : last ≡ other = same_Some last other (sym (slice_get-last old new last all) ∙ (ap (slice_get new) (sym last-place) ∙ here)) in
            subst (λ (n : PoolNode). All (IsPart old (parts_of last)) (parts_of n)) same
            (All-weaker (Contains (parts_of last)) (IsPart old (parts_of last)) (λ part has. inr has) (parts_of last) (All-contains_itself (parts_of last)));
        reach = omega (arith, reach, closed);
        most_size = omega (arith, size);
        most_clauses = omega (arith, ap (λ (ns : List PoolNode). sum_by node_clauses ns) all, sum_by_push node_clauses old last);
        most_variables = omega (arith, ap (λ (ns : List PoolNode). sum_by node_variables ns) all, sum_by_push node_variables old last);
      };
      value = λ set.
          ap (λ (vs : List Bool). get_or vs id.0 false) (values set)
          ∙ get_or_push (pool_values set old) (value_at set (pool_values set old) last) false id.0 (count set ∙ sym place);
    }

-- ---- several nodes

pub grown-none : (old : List PoolNode) (over : List ℕ) → IsGrown old old over 0 0 0
grown-none old over = record {
  extends = ([], sym (append-nil old));
  count = omega arith;
  kept = λ set id below. refl;
  parts = λ place node behind here. absurd (omega (arith, behind, slice_get_within old place node here));
  reach = refl;
  most_size = omega arith;
  most_clauses = omega arith;
  most_variables = omega arith;
}

-- larger bounds
pub grown-weaker : (old new : List PoolNode) (over : List ℕ) (size clauses variables size' clauses' variables' : ℕ) → IsGrown old new over size clauses variables → size ≤ size' → clauses ≤ clauses' → variables ≤ variables'
    → IsGrown old new over size' clauses' variables'
grown-weaker old new over size clauses variables size' clauses' variables' grown s c v = record {
  extends = grown.extends;
  count = grown.count;
  kept = grown.kept;
  parts = grown.parts;
  reach = grown.reach;
  most_size = omega (arith, grown.most_size, s);
  most_clauses = omega (arith, grown.most_clauses, c);
  most_variables = omega (arith, grown.most_variables, v);
}

-- a part of a pool's later growth is one of the whole growth
part-then : (old mid : List PoolNode) (over others : List ℕ) → length old ≤ length mid → All (IsPart old over) others → (place : ℕ) → IsPart mid others place → IsPart old over place
part-then old mid over others le all place (inl behind) = inl (omega (arith, behind, le))
part-then old mid over others le all place (inr has) = All-contains (IsPart old over) others place all has

-- one growth behind another
module _ (old mid new : List PoolNode) (over others : List ℕ) (s c v s' c' v' : ℕ) (first : IsGrown old mid over s c v) (second : IsGrown mid new others s' c' v') (all : All (IsPart old over) others) where
  pub grown-then : IsGrown old new over (s + s') (c + c') (v + v')
  grown-then = record {
    extends = (
      first.extends.0 ++ second.extends.0,
      second.extends.1 ∙ ap (λ (ns : List PoolNode). ns ++ second.extends.0) first.extends.1 ∙ append_assoc old first.extends.0 second.extends.0,
    );
    count = omega (arith, first.count, second.count);
    kept = λ set id below. second.kept set id (omega (arith, below, first.count)) ∙ first.kept set id below;
    parts = λ place node behind here.
        ⊎_elim
        (λ (before : place < length mid). first.parts place node behind (sym (slice_get-stays mid new second.extends place before) ∙ here))
        (λ (after : length mid ≤ place).
        All-weaker (IsPart mid others) (IsPart old over) (part-then old mid over others first.count all) (parts_of node) (second.parts place node after here))
        (order place (length mid));
    reach = second.reach ∙ first.reach;
    most_size = omega (arith, first.most_size, second.most_size);
    most_clauses = omega (arith, first.most_clauses, second.most_clauses);
    most_variables = omega (arith, first.most_variables, second.most_variables);
  }
    where
      order : (a b : ℕ) → (a < b) ⊎ (b ≤ a)
      order a b = ⊎_elim (λ same. inr (omega (arith, same))) (λ one. ⊎_elim (λ below. inl below) (λ above. inr (omega (arith, above))) one) (cases_order a b)

  -- a node of the second growth is one of both
  pub built-then : (says other : List Bool → Bool) (id : NodeId) → IsBuilt mid new others says id → ((set : List Bool) → says set ≡ other set) → IsBuilt old new over other id
  built-then says other id built same = record {
    held = built.held;
    part = part-then old mid over others first.count all id.0 built.part;
    value = λ set. built.value set ∙ same set;
  }

  -- and so is one of the first
  pub built-stays : (says other : List Bool → Bool) (id : NodeId) → IsBuilt old mid over says id → ((set : List Bool) → says set ≡ other set) → IsBuilt old new over other id
  built-stays says other id built same = record {
    held = omega (arith, built.held, second.count);
    part = built.part;
    value = λ set. second.kept set id built.held ∙ built.value set ∙ same set;
  }

-- a node that was put last was put since
pub built-put : (old new : List PoolNode) (last : PoolNode) (id : NodeId) (over : List ℕ) (says : List Bool → Bool) → IsPut old last new id → ((set : List Bool) → value_at set (pool_values set old) last ≡ says set)
    → IsBuilt old new over says id
built-put old new last id over says put same = record {
  held = put.held;
  part = inl (omega (arith, put.place));
  value = λ set. put.value set ∙ same set;
}

-- one put behind a growth
pub grown-put : (old mid new : List PoolNode) (over : List ℕ) (s c v : ℕ) (last : PoolNode) (id : NodeId) → IsGrown old mid over s c v → IsPut mid last new id → All (IsPart old over) (parts_of last)
    → IsGrown old new over (s + entries_of last) (c + node_clauses last) (v + node_variables last)
grown-put old mid new over s c v last id grown put all =
    grown-then old mid new over (parts_of last) s c v (entries_of last) (node_clauses last) (node_variables last) grown put.grown all

-- ---- what a node says by its parts

and-last : (x y : Bool) → (x && (y && true)) ≡ (x && y)
and-last true true = refl
and-last true false = refl
and-last false y = refl

or-last : (x y : Bool) → (x || (y || false)) ≡ (x || y)
or-last true y = refl
or-last false true = refl
or-last false false = refl

module _ (old new : List PoolNode) (id : NodeId) (set : List Bool) where
  pub not-value : (part : NodeId) (a : Bool) → IsPut old (node.Not part) new id → is_true old set part ≡ a → is_true new set id ≡ not a
  not-value part a put is = put.value set ∙ ap not is

  pub both-value : (left right : NodeId) (a b : Bool) → IsPut old (node.All (left ∷ right ∷ [])) new id → is_true old set left ≡ a → is_true old set right ≡ b → is_true new set id ≡ (a && b)
  both-value left right a b put is also =
      put.value set ∙ (and-last (is_true old set left) (is_true old set right) ∙ (ap (λ (x : Bool). x && is_true old set right) is ∙ ap (λ (y : Bool). a && y) also))

  pub either-value : (left right : NodeId) (a b : Bool) → IsPut old (node.Any (left ∷ right ∷ [])) new id → is_true old set left ≡ a → is_true old set right ≡ b → is_true new set id ≡ (a || b)
  either-value left right a b put is also =
      put.value set ∙ (or-last (is_true old set left) (is_true old set right) ∙ (ap (λ (x : Bool). x || is_true old set right) is ∙ ap (λ (y : Bool). a || y) also))

pub two : (P : ℕ → Type 0) (x y : ℕ) → P x → P y → All P (x ∷ y ∷ [])
two P x y a b = All-cons P x (y ∷ []) a (All-cons P y [] b (All-nil P))

pub one : (P : ℕ → Type 0) (x : ℕ) → P x → All P (x ∷ [])
one P x a = All-cons P x [] a (All-nil P)
