-- What a name's node takes: its origins' nodes, and what their roots reach.
use Rattle.std.proofs.Common.{◌≡◌, ◌∙◌, refl, sym, ap, subst, ℕ, suc, ◌+◌, ◌*◌, ◌<◌, ◌≤◌, ◌⊎◌, inl, inr, ⊎_elim, Bool, true, false, ◌||◌, cond, eqb, List, [], ◌∷◌, length, map, slice_get, Some, All, Contains, arith}
use Rattle.std.specs.Prelude.{sum_by}
use Rattle.std.specs.List.{list_any}
use Rattle.std.proofs.lemmas.Bool.{cases_eq, eq-eqb, eqb-true, ne_eqb, or_cases, or_left, or_right}
use Rattle.std.proofs.lemmas.List.{length-map}
use Rattle.std.proofs.lemmas.List.Elements.{All-cons, All-head, All-nil, All-weaker}
use Rattle.std.proofs.lemmas.List.Sums.{sum_by-cons}
use Rattle.std.proofs.lemmas.Option.{get_or_from_slice_get, same_Some, slice_get_within}
use Rattle.vkb_formula.specs.Pools.{node_clauses, node_variables, parts_of, reaches, reaches_any, sum_reached, sum_where}
use Rattle.vkb_formula.specs.Reaches.{IsClosed, OneRoot, ReachHasRoots, ReachIsClosed, SumIsLeast}
use Rattle.vkb_formula.specs.declared.pool.NodeId.{NodeId}
use Rattle.vkb_formula.specs.declared.pool.PoolNode.{PoolNode}
use Rattle.vkb_formula.specs.declared.pool.PoolNode.TheVariants as node
use Rattle.reg_registry.specs.Naming.{Leads, Names, more, step}
use Rattle.reg_registry.specs.Rows.{Rows}
use Rattle.reg_registry.specs.declared.registry.Row.{Row}
use Rattle.reg_closure.specs.Listed.{list_at, row_lists}
use Rattle.reg_closure.specs.Made.{node_at}
use Rattle.reg_closure.specs.Presence.{AreOrigins, KeepBounds, name_weight, namers_of, root_weight}
use Rattle.reg_closure.proofs.ListedLemmas.{length-places}
use Rattle.reg_closure.proofs.NamedLemmas.{listed-names, names-within}
use Rattle.reg_closure.proofs.PresenceLemmas.{AreKnown, any-one, one-any}

-- ---- sums over what passes

module _ (weigh : PoolNode → ℕ) where
  one-or-both : (a b : Bool) (w : ℕ) → cond (a || b) w 0 ≤ cond a w 0 + cond b w 0
  one-or-both true b w = omega arith
  one-or-both false b w = omega arith

  sum-or : (f g : ℕ → Bool) (k : ℕ) (nodes : List PoolNode) → sum_where weigh (λ p. f p || g p) k nodes ≤ sum_where weigh f k nodes + sum_where weigh g k nodes
  sum-or f g k [] = omega arith
  sum-or f g k (n ∷ ns) = omega (arith, one-or-both (f k) (g k) (weigh n), sum-or f g (k + 1) ns)

  sum-never : (k : ℕ) (nodes : List PoolNode) → sum_where weigh (λ p. false) k nodes ≡ 0
  sum-never k [] = refl
  sum-never k (n ∷ ns) = omega (arith, sum-never (k + 1) ns)

  sum-any : {X : Type 0} (f : X → ℕ → Bool) (xs : List X) (k : ℕ) (nodes : List PoolNode) → sum_where weigh (λ p. list_any (λ x. f x p) xs) k nodes ≤ sum_by (λ x. sum_where weigh (f x) k nodes) xs
  sum-any f [] k nodes = omega (arith, sum-never k nodes)
  sum-any f (x ∷ xs) k nodes =
      omega (arith, sum-or (f x) (λ p. list_any (λ x. f x p) xs) k nodes, sum-any f xs k nodes, sum_by-cons (λ x. sum_where weigh (f x) k nodes) x xs)

  sum-past : (id k : ℕ) (nodes : List PoolNode) → id < k → sum_where weigh (λ p. eqb p id) k nodes ≡ 0
  sum-past id k [] past = refl
  sum-past id k (n ∷ ns) past =
      omega (arith, sum-past id (k + 1) ns (omega arith), ap (λ b. cond b (weigh n) 0) (ne_eqb k id (λ e. omega (arith, e, past))))

  sum-one : (id most k : ℕ) (nodes : List PoolNode) → ((place : ℕ) (n : PoolNode) → slice_get nodes place ≡ Some n → k + place ≡ id → weigh n ≤ most) → sum_where weigh (λ p. eqb p id) k nodes ≤ most
  sum-one id most k [] all = omega arith
  sum-one id most k (n ∷ ns) all =
      ⊎_elim
      (λ (here : k ≡ id). omega (arith, all 0 n refl (omega (arith, here)), sum-past id (k + 1) ns (omega (arith, here)), ap (λ b. cond b (weigh n) 0) (eq-eqb k id here)))
      (λ (apart : k ≡ id → ⊥). omega (arith, ap (λ b. cond b (weigh n) 0) (ne_eqb k id apart), sum-one id most (k + 1) ns (λ place m e is. all (suc place) m e (omega (arith, is)))))
      (cases_eq k id)

sum-le : (f g : PoolNode → ℕ) (passes : ℕ → Bool) (k : ℕ) (nodes : List PoolNode) → ((n : PoolNode) → f n ≤ g n) → sum_where f passes k nodes ≤ sum_where g passes k nodes
sum-le f g passes k [] le = omega arith
sum-le f g passes k (n ∷ ns) le = omega (arith, each (passes k) (f n) (g n) (le n), sum-le f g passes (k + 1) ns le)
  where
    each : (b : Bool) (x y : ℕ) → x ≤ y → cond b x 0 ≤ cond b y 0
    each true x y h = h
    each false x y h = omega arith

variables-le : (n : PoolNode) → node_variables n ≤ node_clauses n
variables-le node.Always = omega arith
variables-le node.Never = omega arith
variables-le (node.Var variable) = omega arith
variables-le (node.Not part) = omega arith
variables-le (node.All parts) = omega arith
variables-le (node.Any parts) = omega arith

sum-seven : (f g : ℕ → ℕ) (xs : List ℕ) → ((x : ℕ) → Contains xs x → f x ≤ 7 * g x) → sum_by f xs ≤ 7 * sum_by g xs
sum-seven f g [] le = omega arith
sum-seven f g (x ∷ xs) le =
    omega (arith, le x (0, omega arith, refl), sum-seven f g xs (λ y has. le y (suc has.0, omega (arith, has.1), has.2)), sum_by-cons f x xs, sum_by-cons g x xs)

-- ---- origins

leads-within : (rows : List Row) (place other : ℕ) → Leads rows place other → place < length rows
leads-within rows place other (step names) = names-within rows place other names
leads-within rows place other (more {next = next} names rest) = names-within rows place next names

lead-more : (rows : List Row) (place next other : ℕ) → Names rows place next → (next ≡ other) ⊎ Leads rows next other → Leads rows place other
lead-more rows place next other names (inl e) = step (subst (Names rows place) e names)
lead-more rows place next other names (inr rest) = more names rest

module _ (r : Rows) (nodes : List PoolNode) (roots ids : List NodeId) (table : List (List ℕ)) (order : List ℕ) (known : AreKnown r nodes roots ids table order) (rows-count : length r.rows ≡ length r.names)
    (has-roots : ReachHasRoots) (is-closed : ReachIsClosed) (is-least : SumIsLeast) (one-root : OneRoot) (place : ℕ) (below : place < length r.names) (origins : List ℕ) (are : AreOrigins r place origins) where
  -- the origin's own node, or what its root reaches
  abbrev own : ℕ → ℕ → Bool
  own origin p = eqb p (node_at ids origin).0 || reaches_any nodes ((node_at roots origin).0 ∷ []) p

  abbrev kept : ℕ → Bool
  kept p = list_any (λ origin. own origin p) origins

  within : (origin : ℕ) → Contains origins origin → origin < length r.names
  within origin has = ⊎_elim (λ (e : origin ≡ place). omega (arith, e, below)) (λ lead. omega (arith, leads-within r.rows origin place lead, rows-count)) (are.only origin has)

  kept-by : (origin p : ℕ) → Contains origins origin → own origin p ≡ true → kept p ≡ true
  kept-by origin p has is = one-any (λ origin. own origin p) origins origin has is

  kept-own : (origin : ℕ) → Contains origins origin → kept (node_at ids origin).0 ≡ true
  kept-own origin has = kept-by origin (node_at ids origin).0 has (or_left (eqb (node_at ids origin).0 (node_at ids origin).0) _ (eq-eqb (node_at ids origin).0 (node_at ids origin).0 refl))

  kept-reach : (origin p : ℕ) → Contains origins origin → reaches_any nodes ((node_at roots origin).0 ∷ []) p ≡ true → kept p ≡ true
  kept-reach origin p has is = kept-by origin p has (or_right (eqb p (node_at ids origin).0) _ is)

  kept-namers : (origin : ℕ) → Contains origins origin → (namers : List ℕ) → ((namer : ℕ) → Contains namers namer → Contains origins namer) → All (λ part. kept part ≡ true) (map (λ part. part.0) (map (node_at ids) namers))
  kept-namers origin has [] all = All-nil (λ part. kept part ≡ true)
  kept-namers origin has (n ∷ ns) all =
      All-cons (λ part. kept part ≡ true) (node_at ids n).0 (map (λ (part : NodeId). part.0) (map (node_at ids) ns)) (kept-own n (all n (0, omega arith, refl)))
      (kept-namers origin has ns (λ namer h. all namer (suc h.0, omega (arith, h.1), h.2)))

  closed-set : IsClosed nodes kept
  closed-set p n here is =
      let found = any-one (λ origin. own origin p) origins is in
      let origin = found.0 in
      let has = found.1 in
      let root = (node_at roots origin).0 in
      let inside = within origin has in
      ⊎_elim
      (λ (e : eqb p (node_at ids origin).0 ≡ true).
      let there = known.named.each origin (known.whole.all origin inside) in
      let same : n ≡ node.Any (node_at roots origin ∷ map (node_at ids) (list_at table origin)) = same_Some _ _ (sym here ∙ (ap (slice_get nodes) (eqb-true p (node_at ids origin).0 e) ∙ there)) in
      let root-there = (known.made.each origin inside).held in
      let reached = All-head (λ root'. reaches_any nodes (root ∷ []) root' ≡ true) root [] (has-roots nodes (root ∷ []) known.pool (All-cons (λ root'. root' < length nodes) root [] root-there (All-nil (λ root'. root' < length nodes)))) in
      subst (λ (m : PoolNode). All (λ part. kept part ≡ true) (parts_of m)) (sym same)
      (All-cons (λ part. kept part ≡ true) root (map (λ (part : NodeId). part.0) (map (node_at ids) (list_at table origin))) (kept-reach origin root has reached)
      (kept-namers origin has (list_at table origin) (λ namer h.
      let names = listed-names r.rows origin namer (subst (λ (ps : List ℕ). Contains ps namer) (known.listed.each origin inside) h) in
      are.all namer (lead-more r.rows namer origin place names (are.only origin has))))))
      (λ reached.
      All-weaker (λ part. reaches_any nodes (root ∷ []) part ≡ true) (λ part. kept part ≡ true) (λ part h. kept-reach origin part has h) (parts_of n)
      (is-closed nodes (root ∷ []) known.pool p n here reached))
      (or_cases (eqb p (node_at ids origin).0) (reaches_any nodes (root ∷ []) p) found.2)

  -- an origin takes at most seven times what it weighs
  own-cost : (origin : ℕ) → Contains origins origin → sum_where node_clauses (own origin) 0 nodes ≤ 7 * (root_weight r.blocks origin + namers_of r.rows origin)
  own-cost origin has =
      let inside = within origin has in
      let there = known.named.each origin (known.whole.all origin inside) in
      let namers = list_at table origin in
      let count : length namers ≡ namers_of r.rows origin = ap length (known.listed.each origin inside) ∙ length-places (row_lists origin) 0 r.rows in
      let single = sum-one node_clauses (node_at ids origin).0 (2 + length namers) 0 nodes (λ p n here e.
      let zeroth : p ≡ (node_at ids origin).0 = omega (arith, e) in
      let same : n ≡ node.Any (node_at roots origin ∷ map (node_at ids) namers) = same_Some _ _ (sym here ∙ (ap (slice_get nodes) zeroth ∙ there)) in
      omega (arith, ap node_clauses same, length-map namers (node_at ids))) in
      omega (arith, sum-or node_clauses (λ p. eqb p (node_at ids origin).0) (reaches_any nodes ((node_at roots origin).0 ∷ [])) 0 nodes, single, one-root node_clauses nodes (node_at roots origin).0, (known.made.each origin inside).takes, count)

  clauses-bound : sum_reached node_clauses nodes (node_at ids place).0 ≤ 7 * name_weight r origins
  clauses-bound =
      let top = (node_at ids place).0 in
      omega (
        arith,
        one-root node_clauses nodes top,
        is-least node_clauses nodes (top ∷ []) kept known.pool (All-cons (λ root. kept root ≡ true) top [] (kept-own place are.itself) (All-nil (λ root. kept root ≡ true))) closed-set,
        sum-any node_clauses own origins 0 nodes,
        sum-seven (λ origin. sum_where node_clauses (own origin) 0 nodes) (λ origin. root_weight r.blocks origin + namers_of r.rows origin) origins own-cost,
      )

  variables-bound : sum_reached node_variables nodes (node_at ids place).0 ≤ 7 * name_weight r origins
  variables-bound = omega (arith, clauses-bound, sum-le node_variables node_clauses (reaches nodes (node_at ids place).0) 0 nodes variables-le)

pub keep-bounds : (r : Rows) (nodes : List PoolNode) (roots ids : List NodeId) (table : List (List ℕ)) (order : List ℕ) → AreKnown r nodes roots ids table order → length r.rows ≡ length r.names
    → ReachHasRoots → ReachIsClosed → SumIsLeast → OneRoot → KeepBounds r nodes ids
keep-bounds r nodes roots ids table order known rows-count has-roots is-closed is-least one-root =
    let count = known.named.count ∙ known.made.count in
    record {
      clauses = λ place id origins here are.
          let below : place < length r.names = omega (arith, slice_get_within ids place id here, count) in
          subst (λ (n : NodeId). sum_reached node_clauses nodes n.0 ≤ 7 * name_weight r origins) (get_or_from_slice_get ids place id (record { 0 = 0 }) here)
          (clauses-bound r nodes roots ids table order known rows-count has-roots is-closed is-least one-root place below origins are);
      variables = λ place id origins here are.
          let below : place < length r.names = omega (arith, slice_get_within ids place id here, count) in
          subst (λ (n : NodeId). sum_reached node_variables nodes n.0 ≤ 7 * name_weight r origins) (get_or_from_slice_get ids place id (record { 0 = 0 }) here)
          (variables-bound r nodes roots ids table order known rows-count has-roots is-closed is-least one-root place below origins are);
    }
