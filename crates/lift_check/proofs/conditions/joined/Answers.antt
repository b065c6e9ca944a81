use Rattle.std.proofs.Common.{◌<◌, ◌∙◌, ap, sym, refl, subst, length, cond, All, List, ℕ}
use Rattle.std.specs.List.{list_all, list_any}
use Rattle.std.proofs.lemmas.List.Elements.{All-map}
use Rattle.vkb_formula.specs.Pools.{pool_values}
use Rattle.vkb_formula.specs.declared.pool.NodeId.{NodeId}
use Rattle.vkb_formula.specs.declared.pool.PoolNode.TheVariants as node
use Rattle.lift_check.specs.Keeping.{is_on}
use Rattle.lift_check.proofs.NodesLemmas.{IfOk-put}
use Rattle.lift_check.proofs.conditions.joined.Goals as goal

pub put-requires : goal.put-requires
put-requires c =
    let count = length c.args.pool.now in
    All-map (λ (n : ℕ). n < count) (λ (part : NodeId). part.0) c.from_vec-parts.result (subst (λ (ns : List NodeId). All (λ part. part.0 < count) ns) (sym c.from_vec-parts.ensures) c.requires)

pub put-requires-else-any : goal.put-requires-else-any
put-requires-else-any c =
    let count = length c.args.pool.now in
    All-map (λ (n : ℕ). n < count) (λ (part : NodeId). part.0) c.from_vec-parts.result (subst (λ (ns : List NodeId). All (λ part. part.0 < count) ns) (sym c.from_vec-parts.ensures) c.requires)

pub returns-then-any : goal.returns-then-any
returns-then-any c =
    let pool = c.args.pool.now in
    IfOk-put c.put.result pool c.put.new.pool (node.Any c.from_vec-parts.result) _ c.put.ensures refl (λ choice.
    ap (list_any (is_on (pool_values choice pool))) c.from_vec-parts.ensures
    ∙ sym (ap (λ b. cond b (list_any (is_on (pool_values choice pool)) c.args.nodes.items) (list_all (is_on (pool_values choice pool)) c.args.nodes.items)) c.if-any.true))

pub returns-else-any : goal.returns-else-any
returns-else-any c =
    let pool = c.args.pool.now in
    IfOk-put c.put-else-any.result pool c.put-else-any.new.pool (node.All c.from_vec-parts.result) _ c.put-else-any.ensures refl (λ choice.
    ap (list_all (is_on (pool_values choice pool))) c.from_vec-parts.ensures
    ∙ sym (ap (λ b. cond b (list_any (is_on (pool_values choice pool)) c.args.nodes.items) (list_all (is_on (pool_values choice pool)) c.args.nodes.items)) c.if-any.false))
