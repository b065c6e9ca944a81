-- The encoding of nodes, one after the other, and what it says of the roots.
use Rattle.std.proofs.Common.{◌≡◌, ℕ, zero, suc, ◌+◌, ◌*◌, ◌<◌, ◌≤◌, Bool, true, false, eqb, ◌&&◌, ◌||◌, List, [], ◌∷◌, ◌++◌, length, map, take, get_or, slice_get, Some, All, refl, sym, ap, subst, ◌∙◌, ⊎_elim, arith, length-append}
use Rattle.std.proofs.lemmas.List.{take_more, length-map, get_or-map}
use Rattle.std.proofs.lemmas.List.Folds.{list_all-append}
use Rattle.std.proofs.lemmas.List.Sums.{sum_by_more, sum_by_more_le}
use Rattle.std.proofs.lemmas.Bool.{eqb-true, or_cases, or_left, or_right, or_from, false_from_ne_true}
use Rattle.std.proofs.lemmas.Option.{get_or_from_slice_get}
use Rattle.vkb_formula.specs.declared.pool.NodeId.{NodeId}
use Rattle.vkb_formula.specs.declared.pool.PoolNode.{PoolNode}
use Rattle.vkb_formula.specs.declared.pool.PoolNode.TheVariants as node
use Rattle.vkb_formula.specs.Pools.{parts_of, pool_values, node_variables, node_clauses, sum_reached_any}
use Rattle.vkb_formula.specs.Reaches.{IsClosed, OneRoot}
use Rattle.sat_cnf.specs.declared.lit.Lit.{Lit}
use Rattle.sat_cnf.specs.Clauses.{Cnf, IsWithin}
use Rattle.sat_cnf.specs.Models.{lit_value, clause_value, clauses_value, Satisfies}
use Rattle.sat_cnf.specs.Encoding.{IsEncoding, Decides}
use Rattle.sat_cnf.specs.Coding.{has, AreRising, AreReached, sum_at, gate_clauses, node_list, IsCoded}
use Rattle.sat_cnf.proofs.CodingLemmas.{IsNext, coded-more, both-true, and-first, and-second}
use Rattle.sat_cnf.proofs.MarkLemmas.{at-has}

-- ---- sums

pub sum-next : (weigh : PoolNode → ℕ) (nodes : List PoolNode) (places : List ℕ) (i : ℕ) (n : PoolNode) → i < length places → slice_get nodes (get_or places i 0) ≡ Some n → sum_at weigh nodes (take (i + 1) places) ≡ sum_at weigh nodes (take i places) + weigh n
sum-next weigh nodes places i n lt e =
    sum_by_more (λ place. weigh (get_or nodes place node.Always)) places i 0 lt
    ∙ ap (λ m. sum_at weigh nodes (take i places) + weigh m) (get_or_from_slice_get nodes (get_or places i 0) n node.Always e)

pub sum-le : (weigh : PoolNode → ℕ) (nodes : List PoolNode) (places : List ℕ) (i : ℕ) (n : PoolNode) → i < length places → slice_get nodes (get_or places i 0) ≡ Some n → sum_at weigh nodes (take i places) + weigh n ≤ sum_at weigh nodes places
sum-le weigh nodes places i n lt e =
    let most = sum_by_more_le (λ place. weigh (get_or nodes place node.Always)) places i 0 lt in
    let same = ap weigh (get_or_from_slice_get nodes (get_or places i 0) n node.Always e) in
    omega arith

gate-length : (head : Lit) (inputs : List Lit) → length (gate_clauses head inputs) ≡ length inputs + 1
gate-length head inputs =
    length-append (map (λ input. Rattle.sat_cnf.specs.Lits.negation_of head ∷ input ∷ []) inputs) ((head ∷ map Rattle.sat_cnf.specs.Lits.negation_of inputs) ∷ [])
    ∙ ap (λ k. k + 1) (length-map inputs (λ input. Rattle.sat_cnf.specs.Lits.negation_of head ∷ input ∷ []))

list-length : (lit_of : ℕ → Lit) (next : ℕ) (n : PoolNode) → length (node_list lit_of next n) ≡ node_clauses n
list-length lit_of next node.Always = refl
list-length lit_of next node.Never = refl
list-length lit_of next (node.Var variable) = refl
list-length lit_of next (node.Not part) = refl
list-length lit_of next (node.All parts) = gate-length _ (map (λ (part : NodeId). lit_of part.0) parts) ∙ ap (λ k. k + 1) (length-map parts (λ (part : NodeId). lit_of part.0))
list-length lit_of next (node.Any parts) =
    gate-length _ (map (λ (part : NodeId). Rattle.sat_cnf.specs.Lits.negation_of (lit_of part.0)) parts) ∙ ap (λ k. k + 1) (length-map parts (λ (part : NodeId). Rattle.sat_cnf.specs.Lits.negation_of (lit_of part.0)))

-- ---- places that rise

rising-before : (places : List ℕ) (i q : ℕ) → AreRising places → i < length places → has places q ≡ true → q < get_or places i 0 → has (take i places) q ≡ true
rising-before [] i q up lt h below = absurd (omega arith)
rising-before (p ∷ ps) zero q up lt h below =
    absurd (⊎_elim (λ now. let same = eqb-true p q now in omega arith) (λ later. let above = up.0 q later in omega arith) (or_cases (eqb p q) (has ps q) h))
rising-before (p ∷ ps) (suc i) q up lt h below =
    ⊎_elim (λ now. or_left (eqb p q) (has (take i ps) q) now)
    (λ later. or_right (eqb p q) (has (take i ps) q) (rising-before ps i q up.1 (omega arith) later below))
    (or_cases (eqb p q) (has ps q) h)

rising-fresh : (places : List ℕ) (i : ℕ) → AreRising places → i < length places → has (take i places) (get_or places i 0) ≡ false
rising-fresh [] i up lt = absurd (omega arith)
rising-fresh (p ∷ ps) zero up lt = refl
rising-fresh (p ∷ ps) (suc i) up lt =
    or_from (eqb p (get_or ps i 0)) (has (take i ps) (get_or ps i 0))
    (false_from_ne_true (eqb p (get_or ps i 0)) (λ e. let same = eqb-true p (get_or ps i 0) e in let above = up.0 (get_or ps i 0) (at-has ps i 0 (omega arith)) in omega arith))
    (rising-fresh ps i up.1 (omega arith))

-- the parts of a node are done before it
pub parts-done : (nodes : List PoolNode) (places : List ℕ) (i : ℕ) (n : PoolNode) → AreRising places → IsClosed nodes (has places) → i < length places → slice_get nodes (get_or places i 0) ≡ Some n → All (λ part. part < get_or places i 0) (parts_of n) → All (λ part. has (take i places) part ≡ true) (parts_of n)
parts-done nodes places i n up closed lt e parts k d klt =
    rising-before places i (get_or (parts_of n) k d) up lt (closed (get_or places i 0) n e (at-has places i 0 lt) k d klt) (parts k d klt)

pub parts-within : (nodes : List PoolNode) (vars most : ℕ) (done : List ℕ) (lit_of : ℕ → Lit) (next : ℕ) (list : List (List Lit)) (n : PoolNode) → IsCoded nodes vars done lit_of next list → next ≤ most → All (λ part. has done part ≡ true) (parts_of n) → All (λ part. IsWithin most (lit_of part)) (parts_of n)
parts-within nodes vars most done lit_of next list n c le own k d lt =
    let a : (lit_of (get_or (parts_of n) k d)).0 < 2 * next = c.within (get_or (parts_of n) k d) (own k d lt) in omega arith

pub coded-next : (nodes : List PoolNode) (vars : ℕ) (places : List ℕ) (i : ℕ) (lit_of new_of : ℕ → Lit) (next more : ℕ) (n : PoolNode) (old new : Cnf) → i < length places → IsCoded nodes vars (take i places) lit_of next old.list → IsNext nodes vars (take i places) lit_of new_of next (get_or places i 0) n → more ≡ next + node_variables n → new ≡ record old { list = old.list ++ node_list lit_of next n } → IsCoded nodes vars (take (i + 1) places) new_of more new.list
coded-next nodes vars places i lit_of new_of next more n old new lt c s m e =
    subst (λ (done : List ℕ). IsCoded nodes vars done new_of more new.list) (sym (take_more places i 0 lt))
    (subst (λ k. IsCoded nodes vars (take i places ++ get_or places i 0 ∷ []) new_of k new.list) (sym m)
    (subst (λ (cnf : Cnf). IsCoded nodes vars (take i places ++ get_or places i 0 ∷ []) new_of (next + node_variables n) cnf.list) (sym e)
    (coded-more nodes vars (take i places) lit_of new_of next (get_or places i 0) n old.list c s)))

pub fresh-at : (places : List ℕ) (i : ℕ) → AreRising places → i < length places → has (take i places) (get_or places i 0) ≡ false
fresh-at places i up lt = rising-fresh places i up lt

pub count-next : (nodes : List PoolNode) (places : List ℕ) (i : ℕ) (lit_of : ℕ → Lit) (next : ℕ) (n : PoolNode) (old new : Cnf) → i < length places → slice_get nodes (get_or places i 0) ≡ Some n → length old.list ≡ sum_at node_clauses nodes (take i places) → new ≡ record old { list = old.list ++ node_list lit_of next n } → length new.list ≡ sum_at node_clauses nodes (take (i + 1) places)
count-next nodes places i lit_of next n old new lt held e h =
    ap (λ (cnf : Cnf). length cnf.list) h ∙ length-append old.list (node_list lit_of next n)
    ∙ (let a = list-length lit_of next n in let b = sum-next node_clauses nodes places i n lt held in omega arith)

-- ---- the whole

pub all-below : (most : ℕ) (places slice : List ℕ) → slice ≡ places → ((place : ℕ) → has places place ≡ true → place < most) → All (λ place. place < most) slice
all-below most places slice e h = subst (All (λ place. place < most)) (sym e) (λ k d lt. h (get_or places k d) (at-has places k d lt))

root-literals : (full values : List Bool) (lit_of : ℕ → Lit) (roots : List NodeId) → ((k : ℕ) → k < length roots → lit_value full (lit_of (get_or roots k (record { 0 = 0 })).0) ≡ get_or values (get_or roots k (record { 0 = 0 })).0 false) → map (lit_value full) (map (λ (root : NodeId). lit_of root.0) roots) ≡ map (λ root. get_or values root false) (map (λ (root : NodeId). root.0) roots)
root-literals full values lit_of [] h = refl
root-literals full values lit_of (r ∷ rs) h =
    ap (λ b. b ∷ map (lit_value full) (map (λ (root : NodeId). lit_of root.0) rs)) (h 0 (omega arith))
    ∙ ap (λ bs. get_or values r.0 false ∷ bs) (root-literals full values lit_of rs (λ k lt. h (suc k) (omega arith)))

pub encoded : (nodes : List PoolNode) (roots : List NodeId) (places : List ℕ) (vars : ℕ) (lit_of : ℕ → Lit) (cnf : Cnf) (lits : List Lit) → AreReached nodes (map (λ (root : NodeId). root.0) roots) places → ((weigh : PoolNode → ℕ) → sum_reached_any weigh nodes (map (λ (root : NodeId). root.0) roots) ≡ sum_at weigh nodes places) → cnf.vars ≡ vars + sum_at node_variables nodes places → length cnf.list ≡ sum_at node_clauses nodes places → IsCoded nodes vars places lit_of cnf.vars cnf.list → lits ≡ map (λ (root : NodeId). lit_of root.0) roots → IsEncoding nodes (map (λ (root : NodeId). root.0) roots) vars cnf lits
encoded nodes roots places vars lit_of cnf lits r sums v k c e = record {
  variables = v ∙ ap (λ n. vars + n) (sym (sums node_variables));
  clauses = k ∙ sym (sums node_clauses);
  count = ap length e ∙ length-map roots (λ (root : NodeId). lit_of root.0) ∙ sym (length-map roots (λ (root : NodeId). root.0));
  within = subst (All (IsWithin cnf.vars)) (sym e) (λ j d lt.
      let same : get_or (map (λ (root : NodeId). lit_of root.0) roots) j d ≡ lit_of (get_or roots j (record { 0 = 0 })).0 = get_or-map (λ (root : NodeId). lit_of root.0) roots j (record { 0 = 0 }) d (let n = length-map roots (λ (root : NodeId). lit_of root.0) in omega arith) in
      subst (IsWithin cnf.vars) (sym same) (c.within (get_or roots j (record { 0 = 0 })).0 (root-has j (let n = length-map roots (λ (root : NodeId). lit_of root.0) in omega arith))));
  extends = c.extends;
  means = λ set more size sat. ap (map (lit_value (set ++ more))) e
      ∙ root-literals (set ++ more) (pool_values set nodes) lit_of roots (λ j lt. c.means set more size sat (get_or roots j (record { 0 = 0 })).0 (root-has j lt));
}
  where
    root-has : (j : ℕ) → j < length roots → has places (get_or roots j (record { 0 = 0 })).0 ≡ true
    root-has j lt =
        let same : get_or (map (λ (root : NodeId). root.0) roots) j 0 ≡ (get_or roots j (record { 0 = 0 })).0 = get_or-map (λ (root : NodeId). root.0) roots j (record { 0 = 0 }) 0 lt in
        subst (λ q. has places q ≡ true) same (r.has_roots j 0 (let n = length-map roots (λ (root : NodeId). root.0) in omega arith))

-- the same, from what each step of the code says
pub made : (nodes : List PoolNode) (roots : List NodeId) (places first second : List ℕ) (vars n : ℕ) (lit_of : ℕ → Lit) (old cnf : Cnf) (lits : List Lit) → AreReached nodes (map (λ (root : NodeId). root.0) roots) places → ((weigh : PoolNode → ℕ) → sum_reached_any weigh nodes (map (λ (root : NodeId). root.0) roots) ≡ sum_at weigh nodes places) → first ≡ places → second ≡ places → n ≡ vars + sum_at node_variables nodes first → old ≡ record { vars = n; list = [] } → cnf.vars ≡ old.vars → length cnf.list ≡ sum_at node_clauses nodes second → IsCoded nodes vars second lit_of old.vars cnf.list → lits ≡ map (λ (root : NodeId). lit_of root.0) roots → IsEncoding nodes (map (λ (root : NodeId). root.0) roots) vars cnf lits
made nodes roots places first second vars n lit_of old cnf lits r sums a b v o w k c e =
    encoded nodes roots places vars lit_of cnf lits r sums
    (w ∙ ap (λ (x : Cnf). x.vars) o ∙ v ∙ ap (λ xs. vars + sum_at node_variables nodes xs) a)
    (k ∙ ap (sum_at node_clauses nodes) b)
    (subst (λ (xs : List ℕ). IsCoded nodes vars xs lit_of cnf.vars cnf.list) b (subst (λ m. IsCoded nodes vars second lit_of m cnf.list) (sym w) c))
    e

-- ---- one root

or-false : (b : Bool) → (b || false) ≡ b
or-false true = refl
or-false false = refl

and-true : (b : Bool) → (b && true) ≡ b
and-true true = refl
and-true false = refl

unit-value : (full : List Bool) (lits : List Lit) (v : Bool) → map (lit_value full) lits ≡ v ∷ [] → clause_value full lits ≡ v
unit-value full [] v e = absurd (let l : 0 ≡ 1 = ap length e in omega arith)
unit-value full (l ∷ []) v e = or-false (lit_value full l) ∙ (let h : lit_value full l ≡ v = cc in h)
unit-value full (l ∷ m ∷ ls) v e = absurd (let k : suc (suc (length (map (lit_value full) ls))) ≡ 1 = ap length e in omega arith)

pub decided : (nodes : List PoolNode) (root vars : ℕ) (old new : Cnf) (lits : List Lit) → OneRoot → IsEncoding nodes (root ∷ []) vars old lits → new ≡ record old { list = old.list ++ lits ∷ [] } → Decides nodes root vars new
decided nodes root vars old new lits one p e = subst (Decides nodes root vars) (sym e) (record {
  variables = p.variables ∙ ap (λ n. vars + n) (one node_variables nodes root);
  clauses = length-append old.list (lits ∷ []) ∙ (let a = p.clauses in let b = one node_clauses nodes root in omega arith);
  means = λ set size. (forth set size, back set size);
})
  where
    all-value : (full : List Bool) → clauses_value full (old.list ++ lits ∷ []) ≡ (clauses_value full old.list && clause_value full lits)
    all-value full = list_all-append (clause_value full) old.list (lits ∷ []) ∙ ap (λ b. clauses_value full old.list && b) (and-true (clause_value full lits))

    forth : (set : List Bool) → length set ≡ vars → get_or (pool_values set nodes) root false ≡ true → (more : List Bool) × (length (set ++ more) ≡ old.vars) × Satisfies (set ++ more) (old.list ++ lits ∷ [])
    forth set size v =
        let x = p.extends set size in (
          x.0,
          x.1,
          all-value (set ++ x.0)
              ∙ both-true (clauses_value (set ++ x.0) old.list) (clause_value (set ++ x.0) lits) x.2
              (unit-value (set ++ x.0) lits (get_or (pool_values set nodes) root false) (p.means set x.0 size x.2) ∙ v),
        )

    back : (set : List Bool) → length set ≡ vars → ((more : List Bool) × (length (set ++ more) ≡ old.vars) × Satisfies (set ++ more) (old.list ++ lits ∷ [])) → get_or (pool_values set nodes) root false ≡ true
    back set size x =
        let both : (clauses_value (set ++ x.0) old.list && clause_value (set ++ x.0) lits) ≡ true = sym (all-value (set ++ x.0)) ∙ x.2 in
        let first = and-first (clauses_value (set ++ x.0) old.list) (clause_value (set ++ x.0) lits) both in
        sym (unit-value (set ++ x.0) lits (get_or (pool_values set nodes) root false) (p.means set x.0 size first))
        ∙ and-second (clauses_value (set ++ x.0) old.list) (clause_value (set ++ x.0) lits) both
