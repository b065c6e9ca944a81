use Rattle.std.proofs.Common.{◌≡◌, ◌∙◌, ◌∷◌, []}
use Rattle.vkb_formula.specs.declared.pool.PoolNode.TheVariants as node
use Rattle.reg_closure.specs.Made.{IsPut}
use Rattle.reg_closure.proofs.MadeLemmas.{IfOk-map, both-made}
use Rattle.reg_closure.proofs.roots.both.Goals as goal

pub returns-clause-made : goal.returns-clause-made
returns-clause-made c =
    let parts : c.from_vec.result ≡ c.args.left ∷ c.args.right ∷ [] = c.from_vec.ensures ∙ c.in_ok-parts.ensures.items in
    IfOk-map c.put.result (IsPut c.args.pool.now (node.All c.from_vec.result) c.put.new.pool) _
    (λ id put. both-made c.args.pool.now c.put.new.pool id c.args.left c.args.right c.from_vec.result parts put) c.put.ensures.put
