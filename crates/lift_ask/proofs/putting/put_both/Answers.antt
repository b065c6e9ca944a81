use Rattle.std.proofs.Common.{◌≡◌, ◌∙◌, ◌&&◌, ◌∷◌, []}
use Rattle.vkb_formula.specs.Pools.{pool_values, value_at}
use Rattle.vkb_formula.specs.declared.pool.PoolNode.TheVariants as node
use Rattle.lift_nodes.specs.Nodes.{is_true}
use Rattle.lift_survey.proofs.GrowthLemmas.{all-of-two}
use Rattle.lift_ask.proofs.PutLemmas.{says-also}
use Rattle.lift_ask.proofs.putting.put_both.Goals as goal

pub returns-clause-put : goal.returns-clause-put
returns-clause-put c =
    let pool = c.args.pool.now in
    let parts : c.from_vec-parts.result ≡ c.args.left ∷ c.args.right ∷ [] = c.from_vec-parts.ensures ∙ c.in_ok-vec.ensures.items in
    says-also pool c.put.new.pool (λ set. value_at set (pool_values set pool) (node.All c.from_vec-parts.result)) (λ set. is_true pool set c.args.left && is_true pool set c.args.right) c.in_ok-id.id
    (λ set. all-of-two set (pool_values set pool) c.args.left c.args.right c.from_vec-parts.result parts) c.in_ok-id.ensures.put
