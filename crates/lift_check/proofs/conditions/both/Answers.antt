use Rattle.std.proofs.Common.{◌≡◌, ◌∙◌, ap, sym, refl, ◌&&◌, ◌∷◌, []}
use Rattle.std.proofs.lemmas.Bool.{eqb-true}
use Rattle.vkb_formula.specs.Pools.{pool_values, value_at}
use Rattle.vkb_formula.specs.declared.pool.NodeId.{NodeId}
use Rattle.vkb_formula.specs.declared.pool.PoolNode.TheVariants as node
use Rattle.lift_check.specs.Keeping.{is_on}
use Rattle.lift_check.proofs.NodesLemmas.{IsNode-old, IfOk-put, both-alike}
use Rattle.lift_check.proofs.conditions.both.Goals as goal

pub returns-then-eq : goal.returns-then-eq
returns-then-eq c =
    let pool = c.args.pool.now in
    let first : c.args.left ≡ record { 0 = 0 } = ap (λ n. record { 0 = n }) (eqb-true c.args.left.0 0 (sym c.eq.ensures ∙ c.if-eq.true)) in
    IsNode-old pool c.args.right _ c.requires.right (λ choice.
    sym (ap (λ (n : NodeId). is_on (pool_values choice pool) n && is_on (pool_values choice pool) c.args.right) first ∙ ap (λ b. b && is_on (pool_values choice pool) c.args.right) (c.requires.always choice)))

pub returns : goal.returns
returns c =
    let pool = c.args.pool.now in
    let parts : c.from_vec-parts.result ≡ c.args.left ∷ c.args.right ∷ [] = c.from_vec-parts.ensures ∙ c.in_ok-vec.ensures.items in
    IfOk-put c.put.result pool c.put.new.pool (node.All c.from_vec-parts.result) _ c.put.ensures refl (λ choice.
    ap (λ ps. value_at choice (pool_values choice pool) (node.All ps)) parts ∙ both-alike (is_on (pool_values choice pool) c.args.left) (is_on (pool_values choice pool) c.args.right))
