use Rattle.std.proofs.Common.{◌≡◌, ◌∙◌, ◌++◌, ◌∷◌, [], ap, true, false, Bool, List, length, get_or, arith}
use Rattle.std.proofs.lemmas.List.{length_push}
use Rattle.vkb_formula.specs.Pools.{pool_values}
use Rattle.vkb_formula.specs.declared.pool.PoolNode.{PoolNode}
use Rattle.vkb_formula.specs.declared.pool.PoolNode.TheVariants as node
use Rattle.lift_nodes.proofs.tests.two_variables.Goals as goal

pub returns-clause-constants : goal.returns-clause-constants
returns-clause-constants c =
    let all : (set : List Bool) → pool_values set c.put-4.new.self ≡ true ∷ false ∷ get_or set 0 false ∷ get_or set 1 false ∷ [] = λ set.
    c.in_ok-put-4.ensures.values set
    ∙ ap (λ (vs : List Bool). vs ++ get_or set 1 false ∷ []) (c.in_ok-put-3.ensures.values set
    ∙ ap (λ (vs : List Bool). vs ++ get_or set 0 false ∷ []) (c.in_ok-put-2.ensures.values set
    ∙ ap (λ (vs : List Bool). vs ++ false ∷ []) (c.in_ok-put.ensures.values set ∙ ap (λ (ns : List PoolNode). pool_values set ns ++ true ∷ []) c.new-pool.ensures))) in
    let last = ap (λ (ns : List PoolNode). length ns) c.in_ok-put-4.ensures.ok ∙ length_push c.put-3.new.self (node.Var 1) in
    let before = ap (λ (ns : List PoolNode). length ns) c.in_ok-put-3.ensures.ok ∙ length_push c.put-2.new.self (node.Var 0) in
    record {
      always_held = omega (arith, last);
      never_held = omega (arith, last, before);
      always = λ set. ap (λ (vs : List Bool). get_or vs 0 false) (all set);
      never = λ set. ap (λ (vs : List Bool). get_or vs 1 false) (all set);
    }
