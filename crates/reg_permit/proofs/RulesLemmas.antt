-- The rules of the options one by one, and the node of all.
use Rattle.std.proofs.Common.{◌≡◌, ℕ, zero, suc, ◌+◌, ◌*◌, ◌<◌, ◌≤◌, ⊎_elim, Bool, true, false, ◌&&◌, List, [], ◌∷◌, ◌++◌, length, map, get_or, take, Option, Some, None, slice_get, sum_by, All, refl, sym, ap, subst, ◌∙◌, arith}
use Rattle.std.specs.List.{list_all}
use Rattle.std.proofs.lemmas.Bool.{and_from, and_parts, cases_lt}
use Rattle.std.proofs.lemmas.List.{take_all}
use Rattle.std.proofs.lemmas.List.Elements.{All-push, All-weaker}
use Rattle.std.proofs.lemmas.List.Folds.{list_all-append}
use Rattle.std.proofs.lemmas.List.Sums.{sum_by-cons, sum_by_more, sum_by_push}
use Rattle.std.proofs.lemmas.Option.{MatchOption-at_none, MatchOption-at_some, get_or_from_slice_get, same_Some, slice_get_within}
use Rattle.vkb_formula.specs.Pools.{Extends, node_clauses, parts_of, pool_values, sum_reached, value_at}
use Rattle.vkb_formula.specs.declared.pool.NodeId.{NodeId}
use Rattle.vkb_formula.specs.declared.pool.PoolNode.{PoolNode}
use Rattle.vkb_formula.specs.declared.pool.PoolNode.TheVariants as node
use Rattle.reg_registry.specs.Naming.{AreSound}
use Rattle.reg_registry.specs.Rows.{Rows}
use Rattle.reg_registry.specs.declared.registry.OptionRow.{OptionRow}
use Rattle.reg_permit.specs.Nodes.{IsFree, IsRule, KeepNextBefore, KeepsNext, SayRules, SaysRule, rule_cost}
use Rattle.reg_permit.specs.Size.{KeepsSize, SaysPermitted, asked_words, struct_weight}
use Rattle.reg_permit.proofs.NextLemmas.{before-permitted, permitted-before}
use Rattle.reg_permit.proofs.OrderLemmas.{option-at}
use Rattle.reg_permit.proofs.NodeLemmas.{PoolLaws, extends-length, last-sum, last-value, sum-stays, value-stays}

first-held : {n : ℕ} (id : NodeId) (ids : List NodeId) → All (λ id. id.0 < n) (id ∷ ids) → id.0 < n
first-held id ids all = all 0 id (omega arith)

rest-held : {n : ℕ} (id : NodeId) (ids : List NodeId) → All (λ id. id.0 < n) (id ∷ ids) → All (λ id. id.0 < n) ids
rest-held id ids all = λ k d l. all (suc k) d (omega (arith, l))

and-true : (b : Bool) → (b && true) ≡ b
and-true true = refl
and-true false = refl

-- what all of some nodes say, and their clauses, stays
module _ (laws : PoolLaws) (old new : List PoolNode) (e : Extends old new) where
  reads-stay : (set : List Bool) (ids : List NodeId) → All (λ id. id.0 < length old) ids
      → list_all (λ id. get_or (pool_values set new) id.0 false) ids ≡ list_all (λ id. get_or (pool_values set old) id.0 false) ids
  reads-stay set [] all = refl
  reads-stay set (id ∷ ids) all =
      ap (λ (b : Bool). b && list_all (λ id. get_or (pool_values set new) id.0 false) ids) (value-stays laws set old new e id.0 (first-held id ids all))
      ∙ ap (λ (b : Bool). get_or (pool_values set old) id.0 false && b) (reads-stay set ids (rest-held id ids all))

  sums-stay : (ids : List NodeId) → All (λ id. id.0 < length old) ids
      → sum_by (λ id. sum_reached node_clauses new id.0 + 1) ids ≡ sum_by (λ id. sum_reached node_clauses old id.0 + 1) ids
  sums-stay [] all = refl
  sums-stay (id ∷ ids) all =
      omega (
        arith,
        sum_by-cons (λ (id : NodeId). sum_reached node_clauses new id.0 + 1) id ids,
        sum_by-cons (λ (id : NodeId). sum_reached node_clauses old id.0 + 1) id ids,
        sum-stays laws node_clauses old new e id.0 (first-held id ids all),
        sums-stay ids (rest-held id ids all),
      )

  pub rules-stay : (r : Rows) (place : ℕ) (rules : List NodeId) → SayRules r old place rules → SayRules r new place rules
  rules-stay r place rules s = record {
    held = All-weaker (λ id. id.0 < length old) (λ id. id.0 < length new) (λ id l. extends-length old new e id.0 l) rules s.held;
    only = λ chosen c t. s.only chosen c (sym (reads-stay chosen rules s.held) ∙ t);
    all = λ chosen c k. reads-stay chosen rules s.held ∙ s.all chosen c k;
    size = λ origins o. omega (arith, s.size origins o, sums-stay rules s.held);
  }

pub rules-none : (r : Rows) (nodes : List PoolNode) → SayRules r nodes 0 []
rules-none r nodes = record {
  held = λ k d l. absurd (omega (arith, l));
  only = λ chosen c t before o l. absurd (omega (arith, l));
  all = λ chosen c k. refl;
  size = λ origins o. omega arith;
}

-- one more option
module _ (r : Rows) (nodes : List PoolNode) (place : ℕ) (rules : List NodeId) (s : SayRules r nodes place rules) (o : OptionRow) (at : slice_get r.option_rows place ≡ Some o) where
  next-before : (chosen : List Bool) → KeepNextBefore r chosen place → KeepsNext r chosen place o → KeepNextBefore r chosen (place + 1)
  next-before chosen old here before p l e =
      ⊎_elim (λ (a : before < place). old before p a e)
      (λ (a : place ≤ before).
      let same : place ≡ before = omega (arith, a, l) in
      let one : o ≡ p = same_Some o p (sym at ∙ subst (λ (k : ℕ). slice_get r.option_rows k ≡ Some p) (sym same) e) in
      subst (λ (k : ℕ). KeepsNext r chosen k p) same (subst (KeepsNext r chosen place) one here))
      (cases_lt before place)

  old-before : (chosen : List Bool) → KeepNextBefore r chosen (place + 1) → KeepNextBefore r chosen place
  old-before chosen k before p l e = k before p (omega (arith, l)) e

  costs : (f : OptionRow → ℕ) → sum_by f (take (place + 1) r.option_rows) ≡ sum_by f (take place r.option_rows) + f o
  costs f =
      sum_by_more f r.option_rows place o (slice_get_within r.option_rows place o at)
      ∙ ap (λ (x : OptionRow). sum_by f (take place r.option_rows) + f x) (get_or_from_slice_get r.option_rows place o o at)

  pub rules-skip : IsFree r place o → SayRules r nodes (place + 1) rules
  rules-skip free = record {
    held = s.held;
    only = λ chosen c t. next-before chosen (s.only chosen c t) (free chosen c);
    all = λ chosen c k. s.all chosen c (old-before chosen k);
    size = λ origins e. omega (arith, s.size origins e, costs (rule_cost r origins));
  }

  pub rules-more : (id : NodeId) (new : List NodeId) → new ≡ rules ++ id ∷ [] → SaysRule r nodes place o id → SayRules r nodes (place + 1) new
  rules-more id new is says = subst (SayRules r nodes (place + 1)) (sym is) (record {
    held = All-push (λ id. id.0 < length nodes) rules id s.held says.held;
    only = λ chosen c t.
        let both = and_parts (list_all (λ id. get_or (pool_values chosen nodes) id.0 false) rules) (get_or (pool_values chosen nodes) id.0 false) (sym (pushed chosen) ∙ t) in
        next-before chosen (s.only chosen c both.0) (says.only chosen c both.1);
    all = λ chosen c k.
        pushed chosen ∙ and_from (list_all (λ id. get_or (pool_values chosen nodes) id.0 false) rules) (get_or (pool_values chosen nodes) id.0 false)
        (s.all chosen c (old-before chosen k)) (says.all chosen c (k place o (omega arith) at));
    size = λ origins e. omega (arith, s.size origins e, says.size origins e, costs (rule_cost r origins), sum_by_push (λ (id : NodeId). sum_reached node_clauses nodes id.0 + 1) rules id);
  })
    where
      pushed : (chosen : List Bool) → list_all (λ id. get_or (pool_values chosen nodes) id.0 false) (rules ++ id ∷ [])
          ≡ (list_all (λ id. get_or (pool_values chosen nodes) id.0 false) rules && get_or (pool_values chosen nodes) id.0 false)
      pushed chosen =
          list_all-append (λ (id : NodeId). get_or (pool_values chosen nodes) id.0 false) rules (id ∷ [])
          ∙ ap (λ (b : Bool). list_all (λ id. get_or (pool_values chosen nodes) id.0 false) rules && b) (and-true (get_or (pool_values chosen nodes) id.0 false))

-- one more option, with what was put for it
module _ (r : Rows) (nodes : List PoolNode) (place : ℕ) (rules : List NodeId) (s : SayRules r nodes place rules) (l : place < length r.option_rows) (rule : Option NodeId)
    (is : (o : OptionRow) → slice_get r.option_rows place ≡ Some o → IsRule r nodes place o rule) where
  pub put-none : rule ≡ None → SayRules r nodes (place + 1) rules
  put-none e =
      let o = option-at r.option_rows place l in
      rules-skip r nodes place rules s o.0 o.1 (MatchOption-at_none (IsFree r place o.0) (SaysRule r nodes place o.0) e (is o.0 o.1))

  pub put-some : (id : NodeId) (new : List NodeId) → rule ≡ Some id → new ≡ rules ++ id ∷ [] → SayRules r nodes (place + 1) new
  put-some id new e f =
      let o = option-at r.option_rows place l in
      rules-more r nodes place rules s o.0 o.1 id new f (MatchOption-at_some (IsFree r place o.0) (SaysRule r nodes place o.0) id e (is o.0 o.1))

mapped-held : (n : ℕ) (ids : List NodeId) → All (λ id. id.0 < n) ids → (k d : ℕ) → k < length (map (λ (id : NodeId). id.0) ids) → get_or (map (λ (id : NodeId). id.0) ids) k d < n
mapped-held n [] all k d l = absurd (omega (arith, l))
mapped-held n (id ∷ ids) all zero d l = first-held id ids all
mapped-held n (id ∷ ids) all (suc k) d l = mapped-held n ids (rest-held id ids all) k d (omega (arith, l))

pub parts-held : (nodes : List PoolNode) (ids parts : List NodeId) → parts ≡ ids → All (λ id. id.0 < length nodes) ids → All (λ part. part < length nodes) (parts_of (node.All parts))
parts-held nodes ids parts e all = subst (λ (ps : List NodeId). All (λ part. part < length nodes) (parts_of (node.All ps))) (sym e) (mapped-held (length nodes) ids all)

-- what all rules cost
cost-sum : (r : Rows) (origins : ℕ → List ℕ) (options : List OptionRow)
    → sum_by (rule_cost r origins) options ≡ 4 * length options + 4 * sum_by asked_words options + 7 * sum_by (struct_weight r origins) options
cost-sum r origins [] = refl
cost-sum r origins (o ∷ options) =
    omega (arith, cost-sum r origins options, sum_by-cons (rule_cost r origins) o options, sum_by-cons asked_words o options, sum_by-cons (struct_weight r origins) o options)

part-sums : (f : ℕ → ℕ) (ids : List NodeId) → sum_by f (map (λ id. id.0) ids) + length ids ≡ sum_by (λ id. f id.0 + 1) ids
part-sums f [] = refl
part-sums f (id ∷ ids) =
    omega (arith, part-sums f ids, sum_by-cons f id.0 (map (λ (id : NodeId). id.0) ids), sum_by-cons (λ (id : NodeId). f id.0 + 1) id ids)

-- the node of all rules
module _ (laws : PoolLaws) (r : Rows) (sound : AreSound r) (old new : List PoolNode) (rules : List NodeId) (id : NodeId) (s : SayRules r old (length r.options) rules)
    (all : new ≡ old ++ node.All rules ∷ []) (place : id.0 ≡ length old)
    (values : (set : List Bool) → pool_values set new ≡ pool_values set old ++ value_at set (pool_values set old) (node.All rules) ∷ []) where
  pub all-permitted : (chosen : List Bool) → length chosen ≡ length r.options → SaysPermitted r new id chosen
  all-permitted chosen c = record {
    only = λ t. before-permitted r sound chosen sound.options_count (s.only chosen c (sym (last-value laws old new (node.All rules) id all place values chosen) ∙ t));
    all = λ p. last-value laws old new (node.All rules) id all place values chosen ∙ s.all chosen c (permitted-before r sound chosen (length r.options) p);
  }

  pub all-size : KeepsSize r new id
  all-size origins e =
      let whole : take (length r.options) r.option_rows ≡ r.option_rows = take_all (length r.options) r.option_rows (omega (arith, sound.options_count)) in
      omega (
        arith,
        last-sum laws old new (node.All rules) id all place values node_clauses,
        part-sums (sum_reached node_clauses old) rules,
        s.size origins e,
        ap (λ (x : List OptionRow). sum_by (rule_cost r origins) x) whole,
        cost-sum r origins r.option_rows,
        sound.options_count,
      )
