-- The node of one id, along the givers.
use Rattle.std.proofs.Common.{◌≡◌, ◌∙◌, refl, sym, ap, subst, inl, inr, ℕ, suc, ◌+◌, ◌*◌, ◌<◌, Bool, true, false, not, ◌&&◌, ◌||◌, cond, List, [], ◌∷◌, length, map, get_or, take, All, Contains, arith}
use Rattle.std.specs.Str.{bytes_eq}
use Rattle.std.proofs.Math.Seq.{take-length}
use Rattle.std.proofs.lemmas.List.{get_or-map, length-map}
use Rattle.std.proofs.lemmas.List.Elements.{All-cons, All-map}
use Rattle.vkb_formula.specs.Pools.{IsPool, pool_values}
use Rattle.vkb_formula.specs.Reaches.{OneRoot, ReachHasRoots, ReachIsClosed, SumIsLeast}
use Rattle.vkb_formula.specs.declared.pool.NodeId.{NodeId}
use Rattle.vkb_formula.specs.declared.pool.PoolNode.{PoolNode}
use Rattle.vkb_formula.specs.declared.pool.PoolNode.TheVariants as node
use Rattle.lift_nodes.specs.declared.Constants.{Constants}
use Rattle.lift_nodes.specs.declared.ids.Giver.{Giver}
use Rattle.lift_nodes.specs.Cases.{AreConstant}
use Rattle.lift_nodes.specs.Giving.{IsPutOver, SaysId, SaysIdSoFar, id_from, nodes_over}
use Rattle.lift_nodes.specs.Nodes.{is_true}
use Rattle.lift_nodes.specs.Putting.{IsBuilt, IsGrown, IsPart, IsPut, places_of}
use Rattle.lift_nodes.proofs.GrownLemmas.{both-value, built-then, either-value, grown-none, grown-put, grown-then, grown-weaker, not-value, one, two}
use Rattle.lift_nodes.proofs.IdLemmas.{id_from-more, where-given, where-taken}
use Rattle.lift_nodes.proofs.OverLemmas.{node-over}

-- the constants of a pool stay when it grows
pub constants-stay : (old new : List PoolNode) (over : List ℕ) (size clauses variables : ℕ) (constants : Constants) → IsGrown old new over size clauses variables → AreConstant old constants → AreConstant new constants
constants-stay old new over size clauses variables constants grown are = record {
  always_held = omega (arith, are.always_held, grown.count);
  never_held = omega (arith, are.never_held, grown.count);
  always = λ set. grown.kept set constants.always are.always_held ∙ are.always set;
  never = λ set. grown.kept set constants.never are.never_held ∙ are.never set;
}

or-false : (x : Bool) → x ≡ (x || false)
or-false true = refl
or-false false = refl

or-true : (x : Bool) → true ≡ (x || true)
or-true true = refl
or-true false = refl

and-false : (x : Bool) → false ≡ (x && false)
and-false true = refl
and-false false = refl

and-true : (x : Bool) → x ≡ (x && true)
and-true true = refl
and-true false = refl

-- ---- one giver

module _ (old : List PoolNode) (constants : Constants) (are : AreConstant old constants) (line before : NodeId) (line-held : line.0 < length old) (before-held : before.0 < length old) where
  abbrev over : List ℕ
  over = line.0 ∷ before.0 ∷ []

  line-part : IsPart old over line.0
  line-part = inr (0, omega arith, refl)

  before-part : IsPart old over before.0
  before-part = inr (1, omega arith, refl)

  nothing-put : IsGrown old old over 5 3 1
  nothing-put = grown-weaker old old over 0 0 0 5 3 1 (grown-none old over) (omega arith) (omega arith) (omega arith)

  is-never : before.0 ≡ constants.never.0 → (set : List Bool) → is_true old set before ≡ false
  is-never e set = ap (λ (k : ℕ). get_or (pool_values set old) k false) e ∙ are.never set

  is-always : before.0 ≡ constants.always.0 → (set : List Bool) → is_true old set before ≡ true
  is-always e set = ap (λ (k : ℕ). get_or (pool_values set old) k false) e ∙ are.always set

  pub given-by-line : before.0 ≡ constants.never.0 → IsPutOver old old over 5 3 1 (λ set. is_true old set line || is_true old set before) line
  given-by-line e = record {
    grown = nothing-put;
    built = record {
      held = line-held;
      part = line-part;
      value = λ set. or-false (is_true old set line) ∙ ap (λ (b : Bool). is_true old set line || b) (sym (is-never e set));
    };
  }

  pub given-by-before : before.0 ≡ constants.always.0 → IsPutOver old old over 5 3 1 (λ set. is_true old set line || is_true old set before) before
  given-by-before e = record {
    grown = nothing-put;
    built = record {
      held = before-held;
      part = before-part;
      value = λ set. is-always e set ∙ (or-true (is_true old set line) ∙ ap (λ (b : Bool). is_true old set line || b) (sym (is-always e set)));
    };
  }

  pub given-by-put : (new : List PoolNode) (id : NodeId) → IsPut old (node.Any (line ∷ before ∷ [])) new id → IsPutOver old new over 5 3 1 (λ set. is_true old set line || is_true old set before) id
  given-by-put new id put = record {
    grown = grown-weaker old new over 3 3 1 5 3 1 (grown-put old old new over 0 0 0 (node.Any (line ∷ before ∷ [])) id (grown-none old over) put (two (IsPart old over) line.0 before.0 line-part before-part))
        (omega arith) (omega arith) (omega arith);
    built = record {
      held = put.held;
      part = inl (omega (arith, put.place));
      value = λ set. either-value old new id set line before (is_true old set line) (is_true old set before) put refl refl;
    };
  }

  pub taken-by-before : before.0 ≡ constants.never.0 → IsPutOver old old over 5 3 1 (λ set. not (is_true old set line) && is_true old set before) before
  taken-by-before e = record {
    grown = nothing-put;
    built = record {
      held = before-held;
      part = before-part;
      value = λ set. is-never e set ∙ (and-false (not (is_true old set line)) ∙ ap (λ (b : Bool). not (is_true old set line) && b) (sym (is-never e set)));
    };
  }

  module _ (mid : List PoolNode) (isnt : NodeId) (put-not : IsPut old (node.Not line) mid isnt) where
    grown-not : IsGrown old mid over 2 0 0
    grown-not = grown-put old old mid over 0 0 0 (node.Not line) isnt (grown-none old over) put-not (one (IsPart old over) line.0 line-part)

    isnt-value : (set : List Bool) → is_true mid set isnt ≡ not (is_true old set line)
    isnt-value set = not-value old mid isnt set line (is_true old set line) put-not refl

    pub taken-by-not : before.0 ≡ constants.always.0 → IsPutOver old mid over 5 3 1 (λ set. not (is_true old set line) && is_true old set before) isnt
    taken-by-not e = record {
      grown = grown-weaker old mid over 2 0 0 5 3 1 grown-not (omega arith) (omega arith) (omega arith);
      built = record {
        held = put-not.held;
        part = inl (omega (arith, put-not.place));
        value = λ set. isnt-value set ∙ (and-true (not (is_true old set line)) ∙ ap (λ (b : Bool). not (is_true old set line) && b) (sym (is-always e set)));
      };
    }

    pub taken-by-put : (new : List PoolNode) (id : NodeId) → IsPut mid (node.All (isnt ∷ before ∷ [])) new id → IsPutOver old new over 5 3 1 (λ set. not (is_true old set line) && is_true old set before) id
    taken-by-put new id put = record {
      grown = grown-put old mid new over 2 0 0 (node.All (isnt ∷ before ∷ [])) id grown-not put (two (IsPart old over) isnt.0 before.0 (inl (omega (arith, put-not.place))) before-part);
      built = record {
        held = put.held;
        part = inl (omega (arith, put.place, put-not.grown.count));
        value = λ set. both-value mid new id set isnt before (not (is_true old set line)) (is_true old set before) put (isnt-value set) (put-not.grown.kept set before before-held);
      };
    }

-- ---- along the givers

module _ (p0 : List PoolNode) (constants : Constants) (are : AreConstant p0 constants) (id start : List ℕ) (givers : List Giver) where
  abbrev places : List ℕ
  places = places_of (nodes_over constants givers)

  -- before them the node is a constant
  pub says-none : (is : Bool) (before : NodeId) → is ≡ bytes_eq id start → before ≡ cond is constants.always constants.never → SaysIdSoFar p0 p0 constants id start givers 0 before
  says-none true before is same = record {
    grown = grown-none p0 places;
    built = subst (λ (n : NodeId). IsBuilt p0 p0 places (λ set. bytes_eq id start) n) (sym same)
        (record { held = are.always_held; part = inr (0, omega arith, refl); value = λ set. are.always set ∙ is });
  }
  says-none false before is same = record {
    grown = grown-none p0 places;
    built = subst (λ (n : NodeId). IsBuilt p0 p0 places (λ set. bytes_eq id start) n) (sym same)
        (record { held = are.never_held; part = inr (1, omega arith, refl); value = λ set. are.never set ∙ is });
  }

  module _ (mid new : List PoolNode) (count : ℕ) (giver : Giver) (within : count < length givers) (here : giver ≡ get_or givers count giver) (line-held : giver.line.0 < length p0)
      (before next : NodeId) (so-far : SaysIdSoFar p0 mid constants id start givers count before) where
    line-among : Contains places giver.line.0
    line-among = (
      suc (suc count),
      omega (arith, within, length-map givers (λ (g : Giver). g.line), length-map (map (λ (g : Giver). g.line) givers) (λ (n : NodeId). n.0)),
      get_or-map (λ (n : NodeId). n.0) (map (λ (g : Giver). g.line) givers) count giver.line giver.line.0 (omega (arith, within, length-map givers (λ (g : Giver). g.line)))
          ∙ (ap (λ (n : NodeId). n.0) (get_or-map (λ (g : Giver). g.line) givers count giver giver.line within) ∙ ap (λ (g : Giver). g.line.0) (sym here)),
    )

    parts : All (IsPart p0 places) (giver.line.0 ∷ before.0 ∷ [])
    parts = two (IsPart p0 places) giver.line.0 before.0 (inr line-among) so-far.built.part

    pub says-more : (says : Bool → Bool → Bool) → ((line : Bool) (ids : List ℕ) → says line (bytes_eq id ids) ≡ bytes_eq id (cond line giver.id ids))
        → IsPutOver mid new (giver.line.0 ∷ before.0 ∷ []) 5 3 1 (λ set. says (is_true mid set giver.line) (is_true mid set before)) next → SaysIdSoFar p0 new constants id start givers (count + 1) next
    says-more says right put = record {
      grown = grown-weaker p0 new places (5 * count + 5) (3 * count + 3) (count + 1) (5 * (count + 1)) (3 * (count + 1)) (count + 1)
          (grown-then p0 mid new places (giver.line.0 ∷ before.0 ∷ []) (5 * count) (3 * count) count 5 3 1 so-far.grown put.grown parts) (omega arith) (omega arith) (omega arith);
      built = built-then p0 mid new places (giver.line.0 ∷ before.0 ∷ []) (5 * count) (3 * count) count 5 3 1 so-far.grown put.grown parts
          (λ set. says (is_true mid set giver.line) (is_true mid set before)) (λ set. bytes_eq id (id_from (is_true p0 set) start (take (count + 1) givers))) next put.built
          (λ set.
          ap (λ (b : Bool). says b (is_true mid set before)) (so-far.grown.kept set giver.line line-held)
          ∙ (ap (λ (b : Bool). says (is_true p0 set giver.line) b) (so-far.built.value set)
          ∙ (right (is_true p0 set giver.line) (id_from (is_true p0 set) start (take count givers))
          ∙ ap (bytes_eq id) (sym (id_from-more (is_true p0 set) start givers count giver within here)))));
    }

    pub says-given : bytes_eq id giver.id ≡ true → IsPutOver mid new (giver.line.0 ∷ before.0 ∷ []) 5 3 1 (λ set. is_true mid set giver.line || is_true mid set before) next
        → SaysIdSoFar p0 new constants id start givers (count + 1) next
    says-given is put = says-more (λ x y. x || y) (λ line ids. where-given line id giver.id ids is) put

    pub says-taken : bytes_eq id giver.id ≡ false → IsPutOver mid new (giver.line.0 ∷ before.0 ∷ []) 5 3 1 (λ set. not (is_true mid set giver.line) && is_true mid set before) next
        → SaysIdSoFar p0 new constants id start givers (count + 1) next
    says-taken isnt put = says-more (λ x y. not x && y) (λ line ids. where-taken line id giver.id ids isnt) put

  -- behind the last one
  pub says-all : ReachHasRoots → ReachIsClosed → SumIsLeast → OneRoot → (new : List PoolNode) (last : NodeId) → IsPool new → All (λ giver. giver.line.0 < length p0) givers
      → SaysIdSoFar p0 new constants id start givers (length givers) last → SaysId p0 new constants id start givers last
  says-all has-roots is-closed is-least one-root new last pool lines says =
      node-over has-roots is-closed is-least one-root p0 new (nodes_over constants givers) (5 * length givers) (3 * length givers) (length givers) (λ set. bytes_eq id (id_from (is_true p0 set) start givers)) last
      says.grown pool
      (All-cons (λ (n : NodeId). n.0 < length p0) constants.always (constants.never ∷ map (λ (g : Giver). g.line) givers) are.always_held
      (All-cons (λ (n : NodeId). n.0 < length p0) constants.never (map (λ (g : Giver). g.line) givers) are.never_held (All-map (λ (n : NodeId). n.0 < length p0) (λ (g : Giver). g.line) givers lines)))
      (record {
        held = says.built.held;
        part = says.built.part;
        value = λ set. says.built.value set ∙ ap (λ (gs : List Giver). bytes_eq id (id_from (is_true p0 set) start gs)) (take-length givers);
      })
