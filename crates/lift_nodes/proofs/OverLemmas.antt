-- What a node reaches in a pool that grew over some nodes: of what was put all, and of the rest what those reach.
use Rattle.std.proofs.Common.{◌≡◌, ◌⊎◌, ◌∙◌, refl, sym, ap, inl, inr, ⊎_elim, ℕ, ◌+◌, ◌<◌, ◌≤◌, Bool, true, false, ◌||◌, cond, List, [], ◌∷◌, ◌++◌, length, All, sum_by, arith}
use Rattle.std.specs.List.{list_any}
use Rattle.std.proofs.Math.Dec.{leb}
use Rattle.std.proofs.lemmas.Bool.{cases_order, false_from_ne_true, le-leb, leb-true, or_cases, or_left, or_right}
use Rattle.std.proofs.lemmas.List.Elements.{All-cons, All-contains, All-map, All-nil, All-weaker}
use Rattle.std.proofs.lemmas.List.Sums.{sum_by-append, sum_by-cons}
use Rattle.std.proofs.lemmas.Option.{slice_get_within}
use Rattle.vkb_formula.specs.Pools.{IsPool, node_clauses, node_variables, parts_of, reaches, reaches_any, sum_reached, sum_where}
use Rattle.vkb_formula.specs.Reaches.{IsClosed, OneRoot, ReachHasRoots, ReachIsClosed, SumIsLeast}
use Rattle.vkb_formula.specs.declared.pool.NodeId.{NodeId}
use Rattle.vkb_formula.specs.declared.pool.PoolNode.{PoolNode}
use Rattle.lift_nodes.specs.Nodes.{IsNodeOver}
use Rattle.lift_nodes.specs.Putting.{IsBuilt, IsGrown, IsPart, places_of}
use Rattle.lift_nodes.proofs.GrownLemmas.{slice_get-stays}

-- ---- sums over what passes

module _ (weigh : PoolNode → ℕ) where
  one-or-both : (a b : Bool) (w : ℕ) → cond (a || b) w 0 ≤ cond a w 0 + cond b w 0
  one-or-both true b w = omega arith
  one-or-both false b w = omega arith

  sum-or : (f g : ℕ → Bool) (k : ℕ) (nodes : List PoolNode) → sum_where weigh (λ p. f p || g p) k nodes ≤ sum_where weigh f k nodes + sum_where weigh g k nodes
  sum-or f g k [] = omega arith
  sum-or f g k (n ∷ ns) = omega (arith, one-or-both (f k) (g k) (weigh n), sum-or f g (k + 1) ns)

  sum-never : (k : ℕ) (nodes : List PoolNode) → sum_where weigh (λ p. false) k nodes ≡ 0
  sum-never k [] = refl
  sum-never k (n ∷ ns) = omega (arith, sum-never (k + 1) ns)

  sum-any : (f : ℕ → ℕ → Bool) (xs : List ℕ) (k : ℕ) (nodes : List PoolNode) → sum_where weigh (λ p. list_any (λ x. f x p) xs) k nodes ≤ sum_by (λ x. sum_where weigh (f x) k nodes) xs
  sum-any f [] k nodes = omega (arith, sum-never k nodes)
  sum-any f (x ∷ xs) k nodes =
      omega (arith, sum-or (f x) (λ p. list_any (λ x. f x p) xs) k nodes, sum-any f xs k nodes, sum_by-cons (λ x. sum_where weigh (f x) k nodes) x xs)

  sum-append : (f : ℕ → Bool) (k : ℕ) (xs ys : List PoolNode) → sum_where weigh f k (xs ++ ys) ≡ sum_where weigh f k xs + sum_where weigh f (k + length xs) ys
  sum-append f k [] ys = let at : k + 0 ≡ k = omega arith in omega (arith, ap (λ (n : ℕ). sum_where weigh f n ys) at)
  sum-append f k (x ∷ xs) ys =
      let at : k + length (x ∷ xs) ≡ k + 1 + length xs = omega arith in
      omega (arith, sum-append f (k + 1) xs ys, ap (λ (n : ℕ). sum_where weigh f n ys) at)

  -- those that pass weigh no more than all
  sum-all : (f : ℕ → Bool) (k : ℕ) (nodes : List PoolNode) → sum_where weigh f k nodes ≤ sum_by weigh nodes
  sum-all f k [] = omega arith
  sum-all f k (n ∷ ns) = omega (arith, at-most (f k) (weigh n), sum-all f (k + 1) ns, sum_by-cons weigh n ns)
    where
      at-most : (b : Bool) (w : ℕ) → cond b w 0 ≤ w
      at-most true w = omega arith
      at-most false w = omega arith

  -- no place before a bound is past it
  sum-before : (bound k : ℕ) (nodes : List PoolNode) → k + length nodes ≤ bound → sum_where weigh (leb bound) k nodes ≡ 0
  sum-before bound k [] le = refl
  sum-before bound k (n ∷ ns) le =
      let isnt : leb bound k ≡ false = false_from_ne_true (leb bound k) (λ e. omega (arith, leb-true bound k e, le)) in
      omega (arith, ap (λ (b : Bool). cond b (weigh n) 0) isnt, sum-before bound (k + 1) ns (omega (arith, le)))

order : (a b : ℕ) → (a < b) ⊎ (b ≤ a)
order a b = ⊎_elim (λ same. inr (omega (arith, same))) (λ one. ⊎_elim (λ below. inl below) (λ above. inr (omega (arith, above))) one) (cases_order a b)

module _ (has-roots : ReachHasRoots) (is-closed : ReachIsClosed) (is-least : SumIsLeast) (one-root : OneRoot) (old new : List PoolNode) (over : List ℕ) (size clauses variables : ℕ)
    (grown : IsGrown old new over size clauses variables) (pool : IsPool new) (below : All (λ p. p < length old) over) where
  -- what was put, and what those reach
  abbrev kept : ℕ → Bool
  kept p = leb (length old) p || reaches_any old over p

  old-pool : IsPool old
  old-pool place node here =
      pool place node (slice_get-stays old new grown.extends place (slice_get_within old place node here) ∙ here)

  kept-part : (p : ℕ) → IsPart old over p → kept p ≡ true
  kept-part p (inl behind) = or_left (leb (length old) p) (reaches_any old over p) (le-leb (length old) p behind)
  kept-part p (inr has) =
      or_right (leb (length old) p) (reaches_any old over p) (All-contains (λ root. reaches_any old over root ≡ true) over p (has-roots old over old-pool below) has)

  closed : IsClosed new kept
  closed p node here is =
      ⊎_elim
      (λ (before : p < length old).
      let reached : reaches_any old over p ≡ true =
      ⊎_elim (λ (past : leb (length old) p ≡ true). absurd (omega (arith, leb-true (length old) p past, before))) (λ (r : reaches_any old over p ≡ true). r)
      (or_cases (leb (length old) p) (reaches_any old over p) is) in
      All-weaker (λ part. reaches_any old over part ≡ true) (λ part. kept part ≡ true) (λ part h. or_right (leb (length old) part) (reaches_any old over part) h) (parts_of node)
      (is-closed old over old-pool p node (sym (slice_get-stays old new grown.extends p before) ∙ here) reached))
      (λ (behind : length old ≤ p).
      All-weaker (IsPart old over) (λ part. kept part ≡ true) kept-part (parts_of node) (grown.parts p node behind here))
      (order p (length old))

  -- of what a node reaches all that was put, and what those reach
  pub over-bound : (weigh : PoolNode → ℕ) (most place : ℕ) → sum_by weigh new ≤ sum_by weigh old + most → IsPart old over place → sum_reached weigh new place ≤ most + sum_by (sum_reached weigh old) over
  over-bound weigh most place put part =
      let more = grown.extends.0 in
      omega (
        arith,
        one-root weigh new place,
        is-least weigh new (place ∷ []) kept pool (All-cons (λ root. kept root ≡ true) place [] (kept-part place part) (All-nil (λ root. kept root ≡ true))) closed,
        ap (λ (ns : List PoolNode). sum_where weigh kept 0 ns) grown.extends.1,
        sum-append weigh kept 0 old more,
        sum-or weigh (leb (length old)) (reaches_any old over) 0 old,
        sum-before weigh (length old) 0 old (omega arith),
        sum-any weigh (reaches old) over 0 old,
        sum-all weigh kept (0 + length old) more,
        ap (λ (ns : List PoolNode). sum_by weigh ns) grown.extends.1,
        sum_by-append weigh old more,
        put,
      )

sum-places : (f : ℕ → ℕ) (nodes : List NodeId) → sum_by f (places_of nodes) ≡ sum_by (λ (id : NodeId). f id.0) nodes
sum-places f [] = refl
sum-places f (n ∷ ns) = sum_by-cons f n.0 (places_of ns) ∙ (ap (λ (k : ℕ). f n.0 + k) (sum-places f ns) ∙ sym (sum_by-cons (λ (id : NodeId). f id.0) n ns))

-- a node that was built over others is bounded by what was put, and by them
pub node-over : ReachHasRoots → ReachIsClosed → SumIsLeast → OneRoot → (old new : List PoolNode) (nodes : List NodeId) (size clauses variables : ℕ) (says : List Bool → Bool) (id : NodeId)
    → IsGrown old new (places_of nodes) size clauses variables → IsPool new → All (λ n. n.0 < length old) nodes → IsBuilt old new (places_of nodes) says id → IsNodeOver old new nodes clauses variables says id
node-over has-roots is-closed is-least one-root old new nodes size clauses variables says id grown pool below built =
    let within : All (λ p. p < length old) (places_of nodes) = All-map (λ (p : ℕ). p < length old) (λ (n : NodeId). n.0) nodes below in
    record {
      held = built.held;
      value = built.value;
      clauses = omega (
        arith,
        over-bound has-roots is-closed is-least one-root old new (places_of nodes) size clauses variables grown pool within node_clauses clauses id.0 grown.most_clauses built.part,
        sum-places (sum_reached node_clauses old) nodes,
      );
      variables = omega (
        arith,
        over-bound has-roots is-closed is-least one-root old new (places_of nodes) size clauses variables grown pool within node_variables variables id.0 grown.most_variables built.part,
        sum-places (sum_reached node_variables old) nodes,
      );
    }
