-- One more node in an encoding.
use Rattle.std.proofs.Common.{◌≡◌, ℕ, suc, ◌+◌, ◌*◌, ◌<◌, ◌≤◌, Bool, true, false, not, eqb, ◌&&◌, ◌||◌, List, [], ◌∷◌, ◌++◌, length, map, get_or, slice_get, Some, All, refl, sym, ap, subst, ◌∙◌, ⊎_elim, ◌⊎◌, inl, inr, arith, append_assoc}
use Rattle.std.specs.List.{list_all, list_any, AllByRecursion}
use Rattle.std.proofs.lemmas.List.{get_or_append_left, get_or_at, get_or-map, length-map, length_push, append-nil}
use Rattle.std.proofs.lemmas.List.Folds.{list_all-append, list_any-append}
use Rattle.std.proofs.lemmas.Bool.{true≢false, eqb-true, cases_Bool, or_cases}
use Rattle.vkb_formula.specs.declared.pool.NodeId.{NodeId}
use Rattle.vkb_formula.specs.declared.pool.PoolNode.{PoolNode}
use Rattle.vkb_formula.specs.declared.pool.PoolNode.TheVariants as node
use Rattle.vkb_formula.specs.Pools.{parts_of, IsPool, pool_values, value_at, reach_at, node_variables}
use Rattle.vkb_formula.specs.Reaches.{ValuesAreByParts}
use Rattle.sat_cnf.specs.declared.lit.Lit.{Lit}
use Rattle.sat_cnf.specs.Lits.{negation_of}
use Rattle.sat_cnf.specs.Clauses.{IsWithin}
use Rattle.sat_cnf.specs.Models.{lit_value, clause_value, clauses_value, Satisfies}
use Rattle.sat_cnf.specs.Coding.{has, positive, negative, node_lit, node_list, IsCoded}
use Rattle.sat_cnf.proofs.GateLemmas.{agree-same, same-agree, gate-value, gate-within, value-positive, value-negative, value-negation, value-more, negation-within, clauses-more, list-wider, list-append}

pub All-unmap : {X Y : Type 0} (P : Y → Type 0) (f : X → Y) (xs : List X) → All P (map f xs) → All (λ x. P (f x)) xs
All-unmap P f xs h = λ k d lt. subst P (get_or-map f xs k d (f d) lt) (h k (f d) (omega (arith, length-map xs f)))

-- ---- a node's literal and clauses, where its parts have their literals

module _ (set : List Bool) (values : List Bool) (lit_of : ℕ → Lit) where
  -- these parts have literals of their values
  abbrev AreMeant : List NodeId → Type 0
  AreMeant parts = All (λ (part : NodeId). lit_value set (lit_of part.0) ≡ get_or values part.0 false) parts

  all-meant : (parts : List NodeId) → AreMeant parts → list_all (lit_value set) (map (λ (part : NodeId). lit_of part.0) parts) ≡ list_all (λ (part : NodeId). get_or values part.0 false) parts
  all-meant [] h = refl
  all-meant (p ∷ ps) h = ap (λ b. b && list_all (lit_value set) (map (λ (part : NodeId). lit_of part.0) ps)) (h 0 p (omega arith)) ∙ ap (λ b. get_or values p.0 false && b) (all-meant ps (λ k d lt. h (suc k) d (omega arith)))

  any-meant : (parts : List NodeId) → AreMeant parts → list_all (lit_value set) (map (λ (part : NodeId). negation_of (lit_of part.0)) parts) ≡ not (list_any (λ (part : NodeId). get_or values part.0 false) parts)
  any-meant [] h = refl
  any-meant (p ∷ ps) h =
      ap (λ b. b && list_all (lit_value set) (map (λ (part : NodeId). negation_of (lit_of part.0)) ps)) (value-negation set (lit_of p.0) ∙ ap not (h 0 p (omega arith)))
      ∙ ap (λ b. not (get_or values p.0 false) && b) (any-meant ps (λ k d lt. h (suc k) d (omega arith)))
      ∙ morgan (get_or values p.0 false) (list_any (λ (part : NodeId). get_or values part.0 false) ps)
    where
      morgan : (a b : Bool) → (not a && not b) ≡ not (a || b)
      morgan true b = refl
      morgan false b = refl

not-inj : (a b : Bool) → not a ≡ not b → a ≡ b
not-inj true true e = refl
not-inj true false e = sym e
not-inj false true e = sym e
not-inj false false e = refl

-- the clauses of a node are true exactly where its variable has its value
abbrev IsMeant : List Bool → List Bool → (ℕ → Lit) → PoolNode → Type 0
IsMeant set values lit_of n = All (λ part. lit_value set (lit_of part) ≡ get_or values part false) (parts_of n)

node-list-true : (set first values : List Bool) (lit_of : ℕ → Lit) (next : ℕ) (n : PoolNode) → IsMeant set values lit_of n → get_or set next false ≡ value_at first values n → clauses_value set (node_list lit_of next n) ≡ true
node-list-true set first values lit_of next node.Always h e =
    gate-value set (positive next) [] ∙ same-agree (lit_value set (positive next)) true (value-positive set next ∙ e)
node-list-true set first values lit_of next node.Never h e =
    gate-value set (negative next) [] ∙ same-agree (lit_value set (negative next)) true (value-negative set next ∙ ap not e)
node-list-true set first values lit_of next (node.Var variable) h e = refl
node-list-true set first values lit_of next (node.Not part) h e = refl
node-list-true set first values lit_of next (node.All parts) h e =
    gate-value set (positive next) (map (λ (part : NodeId). lit_of part.0) parts)
    ∙ same-agree (lit_value set (positive next)) (list_all (lit_value set) (map (λ (part : NodeId). lit_of part.0) parts))
    (value-positive set next ∙ e ∙ sym (all-meant set values lit_of parts (All-unmap (λ part. lit_value set (lit_of part) ≡ get_or values part false) (λ (part : NodeId). part.0) parts h)))
node-list-true set first values lit_of next (node.Any parts) h e =
    gate-value set (negative next) (map (λ (part : NodeId). negation_of (lit_of part.0)) parts)
    ∙ same-agree (lit_value set (negative next)) (list_all (lit_value set) (map (λ (part : NodeId). negation_of (lit_of part.0)) parts))
    (value-negative set next ∙ ap not e ∙ sym (any-meant set values lit_of parts (All-unmap (λ part. lit_value set (lit_of part) ≡ get_or values part false) (λ (part : NodeId). part.0) parts h)))

-- and then its literal has its value
node-lit-value : (set first values : List Bool) (lit_of : ℕ → Lit) (next : ℕ) (n : PoolNode) → IsMeant set values lit_of n → ((variable : ℕ) → variable < reach_at n → get_or set variable false ≡ get_or first variable false) → clauses_value set (node_list lit_of next n) ≡ true → lit_value set (node_lit lit_of next n) ≡ value_at first values n
node-lit-value set first values lit_of next node.Always h same e =
    agree-same (lit_value set (positive next)) true (sym (gate-value set (positive next) []) ∙ e)
node-lit-value set first values lit_of next node.Never h same e =
    value-positive set next
    ∙ not-inj (get_or set next false) false (sym (value-negative set next) ∙ agree-same (lit_value set (negative next)) true (sym (gate-value set (negative next) []) ∙ e))
node-lit-value set first values lit_of next (node.Var variable) h same e = value-positive set variable ∙ same variable (omega arith)
node-lit-value set first values lit_of next (node.Not part) h same e = value-negation set (lit_of part.0) ∙ ap not (h 0 0 (omega arith))
node-lit-value set first values lit_of next (node.All parts) h same e =
    agree-same (lit_value set (positive next)) (list_all (lit_value set) (map (λ (part : NodeId). lit_of part.0) parts)) (sym (gate-value set (positive next) (map (λ (part : NodeId). lit_of part.0) parts)) ∙ e)
    ∙ all-meant set values lit_of parts (All-unmap (λ part. lit_value set (lit_of part) ≡ get_or values part false) (λ (part : NodeId). part.0) parts h)
node-lit-value set first values lit_of next (node.Any parts) h same e =
    value-positive set next
    ∙ not-inj (get_or set next false) (list_any (λ (part : NodeId). get_or values part.0 false) parts)
    (sym (value-negative set next)
    ∙ agree-same (lit_value set (negative next)) (list_all (lit_value set) (map (λ (part : NodeId). negation_of (lit_of part.0)) parts)) (sym (gate-value set (negative next) (map (λ (part : NodeId). negation_of (lit_of part.0)) parts)) ∙ e)
    ∙ any-meant set values lit_of parts (All-unmap (λ part. lit_value set (lit_of part) ≡ get_or values part false) (λ (part : NodeId). part.0) parts h))

-- ---- where they lie

inputs-within : (vars : ℕ) (lit_of : ℕ → Lit) (parts : List NodeId) → All (λ (part : NodeId). IsWithin vars (lit_of part.0)) parts → AllByRecursion (IsWithin vars) (map (λ (part : NodeId). lit_of part.0) parts)
inputs-within vars lit_of [] h = tt
inputs-within vars lit_of (p ∷ ps) h = (h 0 p (omega arith), inputs-within vars lit_of ps (λ k d lt. h (suc k) d (omega arith)))

negated-within : (vars : ℕ) (lit_of : ℕ → Lit) (parts : List NodeId) → All (λ (part : NodeId). IsWithin vars (lit_of part.0)) parts → AllByRecursion (IsWithin vars) (map (λ (part : NodeId). negation_of (lit_of part.0)) parts)
negated-within vars lit_of [] h = tt
negated-within vars lit_of (p ∷ ps) h = (negation-within vars (lit_of p.0) (h 0 p (omega arith)), negated-within vars lit_of ps (λ k d lt. h (suc k) d (omega arith)))

pub node-list-within : (vars : ℕ) (lit_of : ℕ → Lit) (next : ℕ) (n : PoolNode) → next + node_variables n ≤ vars → All (λ part. IsWithin vars (lit_of part)) (parts_of n) → AllByRecursion (AllByRecursion (IsWithin vars)) (node_list lit_of next n)
node-list-within vars lit_of next node.Always le h = gate-within vars (positive next) [] (omega arith) tt
node-list-within vars lit_of next node.Never le h = gate-within vars (negative next) [] (omega arith) tt
node-list-within vars lit_of next (node.Var variable) le h = tt
node-list-within vars lit_of next (node.Not part) le h = tt
node-list-within vars lit_of next (node.All parts) le h =
    gate-within vars (positive next) (map (λ (part : NodeId). lit_of part.0) parts) (omega arith) (inputs-within vars lit_of parts (All-unmap (λ part. IsWithin vars (lit_of part)) (λ (part : NodeId). part.0) parts h))
node-list-within vars lit_of next (node.Any parts) le h =
    gate-within vars (negative next) (map (λ (part : NodeId). negation_of (lit_of part.0)) parts) (omega arith) (negated-within vars lit_of parts (All-unmap (λ part. IsWithin vars (lit_of part)) (λ (part : NodeId). part.0) parts h))

pub node-lit-within : (vars : ℕ) (lit_of : ℕ → Lit) (next : ℕ) (n : PoolNode) → next + node_variables n ≤ vars → reach_at n ≤ vars → All (λ part. IsWithin vars (lit_of part)) (parts_of n) → IsWithin vars (node_lit lit_of next n)
node-lit-within vars lit_of next node.Always le reach h = omega arith
node-lit-within vars lit_of next node.Never le reach h = omega arith
node-lit-within vars lit_of next (node.Var variable) le reach h = omega arith
node-lit-within vars lit_of next (node.Not part) le reach h = negation-within vars (lit_of part.0) (h 0 0 (omega arith))
node-lit-within vars lit_of next (node.All parts) le reach h = omega arith
node-lit-within vars lit_of next (node.Any parts) le reach h = omega arith

-- ---- one more node

-- how many variables of its own a node has
own-cases : (n : PoolNode) → (node_variables n ≡ 0) ⊎ (node_variables n ≡ 1)
own-cases node.Always = inr refl
own-cases node.Never = inr refl
own-cases (node.Var variable) = inl refl
own-cases (node.Not part) = inl refl
own-cases (node.All parts) = inr refl
own-cases (node.Any parts) = inr refl

no-list : (set : List Bool) (lit_of : ℕ → Lit) (next : ℕ) (n : PoolNode) → node_variables n ≡ 0 → clauses_value set (node_list lit_of next n) ≡ true
no-list set lit_of next node.Always e = absurd (omega arith)
no-list set lit_of next node.Never e = absurd (omega arith)
no-list set lit_of next (node.Var variable) e = refl
no-list set lit_of next (node.Not part) e = refl
no-list set lit_of next (node.All parts) e = absurd (omega arith)
no-list set lit_of next (node.Any parts) e = absurd (omega arith)

pub both-true : (a b : Bool) → a ≡ true → b ≡ true → (a && b) ≡ true
both-true a b e f = ap (λ x. x && b) e ∙ f

pub and-first : (a b : Bool) → (a && b) ≡ true → a ≡ true
and-first true b e = refl
and-first false b e = e

pub and-second : (a b : Bool) → (a && b) ≡ true → b ≡ true
and-second true b e = e
and-second false b e = absurd (true≢false (sym e))

-- nothing is coded before the first node
pub coded-none : (nodes : List PoolNode) (vars : ℕ) (lit_of : ℕ → Lit) → IsCoded nodes vars [] lit_of vars []
coded-none nodes vars lit_of = record {
  low = omega arith;
  within = λ place e. absurd (true≢false (sym e));
  clauses_within = tt;
  extends = λ set e. ([], ap length (append-nil set) ∙ e, refl);
  means = λ set more e sat place own. absurd (true≢false (sym own));
}

has-push : (done : List ℕ) (place other : ℕ) → has (done ++ place ∷ []) other ≡ true → (has done other ≡ true) ⊎ (place ≡ other)
has-push done place other e =
    ⊎_elim (λ old. inl old)
    (λ new. inr (eqb-true place other (or-false (eqb place other) new)))
    (or_cases (has done other) (eqb place other || false) (sym (list_any-append (λ o. eqb o other) done (place ∷ [])) ∙ e))
  where
    or-false : (b : Bool) → (b || false) ≡ true → b ≡ true
    or-false true e = refl
    or-false false e = e

-- what a step of the encoding has
pub record IsNext (nodes : List PoolNode) (vars : ℕ) (done : List ℕ) (lit_of new_of : ℕ → Lit) (next place : ℕ) (n : PoolNode) : Type 0 where
  pub pool : IsPool nodes
  pub laws : ValuesAreByParts
  pub held : slice_get nodes place ≡ Some n
  pub parts : All (λ part. has done part ≡ true) (parts_of n)
  pub fresh : has done place ≡ false
  pub below : reach_at n ≤ vars
  pub own : new_of place ≡ node_lit lit_of next n
  pub others : (other : ℕ) → eqb place other ≡ false → new_of other ≡ lit_of other

module _ (nodes : List PoolNode) (vars : ℕ) (done : List ℕ) (lit_of new_of : ℕ → Lit) (next place : ℕ) (n : PoolNode) (list : List (List Lit)) (c : IsCoded nodes vars done lit_of next list) (s : IsNext nodes vars done lit_of new_of next place n) where
  old-of : (other : ℕ) → has done other ≡ true → new_of other ≡ lit_of other
  old-of other own =
      ⊎_elim (λ (e : eqb place other ≡ true). absurd (true≢false (sym own ∙ ap (has done) (sym (eqb-true place other e)) ∙ s.fresh)))
      (λ (e : eqb place other ≡ false). s.others other e) (cases_Bool (eqb place other))

  parts-within : (more : ℕ) → next ≤ more → All (λ part. IsWithin more (lit_of part)) (parts_of n)
  parts-within more le k d lt = let a : (lit_of (get_or (parts_of n) k d)).0 < 2 * next = c.within (get_or (parts_of n) k d) (s.parts k d lt) in omega arith

  step-within : (other : ℕ) → has (done ++ place ∷ []) other ≡ true → IsWithin (next + node_variables n) (new_of other)
  step-within other own =
      ⊎_elim
      (λ old. subst (IsWithin (next + node_variables n)) (sym (old-of other old)) (let a : (lit_of other).0 < 2 * next = c.within other old in omega arith))
      (λ new. subst (IsWithin (next + node_variables n)) (sym (ap new_of (sym new) ∙ s.own))
      (let low = c.low in let below = s.below in node-lit-within (next + node_variables n) lit_of next n (omega arith) (omega arith) (parts-within (next + node_variables n) (omega arith))))
      (has-push done place other own)

  step-clauses : AllByRecursion (AllByRecursion (IsWithin (next + node_variables n))) (list ++ node_list lit_of next n)
  step-clauses =
      list-append (next + node_variables n) list (node_list lit_of next n) (list-wider next (next + node_variables n) list (omega arith) c.clauses_within)
      (node-list-within (next + node_variables n) lit_of next n (omega arith) (parts-within (next + node_variables n) (omega arith)))

  -- the literals of the parts have their values
  parts-meant : (set more : List Bool) → length set ≡ vars → Satisfies (set ++ more) list → IsMeant (set ++ more) (pool_values set nodes) lit_of n
  parts-meant set more e sat k d lt = c.means set more e sat (get_or (parts_of n) k d) (s.parts k d lt)

  step-means : (set more : List Bool) → length set ≡ vars → Satisfies (set ++ more) (list ++ node_list lit_of next n) → (other : ℕ) → has (done ++ place ∷ []) other ≡ true → lit_value (set ++ more) (new_of other) ≡ get_or (pool_values set nodes) other false
  step-means set more e sat other own =
      let split : (clauses_value (set ++ more) list && clauses_value (set ++ more) (node_list lit_of next n)) ≡ true = sym (list_all-append (clause_value (set ++ more)) list (node_list lit_of next n)) ∙ sat in
      let old = and-first (clauses_value (set ++ more) list) (clauses_value (set ++ more) (node_list lit_of next n)) split in
      let new = and-second (clauses_value (set ++ more) list) (clauses_value (set ++ more) (node_list lit_of next n)) split in
      ⊎_elim
      (λ held. ap (lit_value (set ++ more)) (old-of other held) ∙ c.means set more e old other held)
      (λ this. ap (lit_value (set ++ more)) (ap new_of (sym this) ∙ s.own)
      ∙ node-lit-value (set ++ more) set (pool_values set nodes) lit_of next n (parts-meant set more e old)
      (λ variable lt. get_or_append_left set more false variable (let below = s.below in omega arith)) new
      ∙ sym (s.laws set nodes place n s.pool s.held)
      ∙ ap (λ p. get_or (pool_values set nodes) p false) this)
      (has-push done place other own)

  -- a set that is longer by the value of the node
  longer : (set more : List Bool) → length set ≡ vars → length (set ++ more) ≡ next → Satisfies (set ++ more) list → (b : Bool) → b ≡ value_at set (pool_values set nodes) n → Satisfies (set ++ (more ++ b ∷ [])) (list ++ node_list lit_of next n)
  longer set more e size sat b is =
      let all : set ++ (more ++ b ∷ []) ≡ (set ++ more) ++ b ∷ [] = sym (append_assoc set more (b ∷ [])) in
      let old : clauses_value ((set ++ more) ++ b ∷ []) list ≡ true = clauses-more (set ++ more) (b ∷ []) list (subst (λ k. AllByRecursion (AllByRecursion (IsWithin k)) list) (sym size) c.clauses_within) ∙ sat in
      let here : get_or ((set ++ more) ++ b ∷ []) next false ≡ b = get_or_at (set ++ more) b [] false next size in
      let meant : IsMeant ((set ++ more) ++ b ∷ []) (pool_values set nodes) lit_of n = λ k d lt.
      value-more (set ++ more) (b ∷ []) (lit_of (get_or (parts_of n) k d)) (subst (λ m. IsWithin m (lit_of (get_or (parts_of n) k d))) (sym size) (c.within (get_or (parts_of n) k d) (s.parts k d lt)))
      ∙ parts-meant set more e sat k d lt in
      subst (λ (full : List Bool). Satisfies full (list ++ node_list lit_of next n)) (sym all)
      (list_all-append (clause_value ((set ++ more) ++ b ∷ [])) list (node_list lit_of next n)
      ∙ both-true (clauses_value ((set ++ more) ++ b ∷ []) list) (clauses_value ((set ++ more) ++ b ∷ []) (node_list lit_of next n)) old
      (node-list-true ((set ++ more) ++ b ∷ []) set (pool_values set nodes) lit_of next n meant (here ∙ is)))

  step-extends : (set : List Bool) → length set ≡ vars → (more : List Bool) × (length (set ++ more) ≡ next + node_variables n) × Satisfies (set ++ more) (list ++ node_list lit_of next n)
  step-extends set e =
      let old = c.extends set e in
      ⊎_elim
      (λ none. (
        old.0,
        omega (arith, old.1),
        list_all-append (clause_value (set ++ old.0)) list (node_list lit_of next n)
            ∙ both-true (clauses_value (set ++ old.0) list) (clauses_value (set ++ old.0) (node_list lit_of next n)) old.2 (no-list (set ++ old.0) lit_of next n none),
      ))
      (λ one. (
        old.0 ++ value_at set (pool_values set nodes) n ∷ [],
        ap length (sym (append_assoc set old.0 (value_at set (pool_values set nodes) n ∷ []))) ∙ (let size = length_push (set ++ old.0) (value_at set (pool_values set nodes) n) in omega (arith, old.1)),
        longer set old.0 e old.1 old.2 (value_at set (pool_values set nodes) n) refl,
      ))
      (own-cases n)

  pub coded-more : IsCoded nodes vars (done ++ place ∷ []) new_of (next + node_variables n) (list ++ node_list lit_of next n)
  coded-more = record {
    low = (let low = c.low in omega arith);
    within = step-within;
    clauses_within = step-clauses;
    extends = step-extends;
    means = step-means;
  }
