use Rattle.std.proofs.Common.{◌<◌, List, ap, sym, subst, length, map, All}
use Rattle.std.specs.List.{list_any}
use Rattle.std.proofs.lemmas.List.Elements.{All-map}
use Rattle.vkb_formula.specs.declared.pool.NodeId.{NodeId}
use Rattle.vkb_formula.specs.declared.pool.PoolNode.TheVariants as node
use Rattle.vkb_formula.specs.Pools.{pool_values, value_at}
use Rattle.lift_nodes.specs.Nodes.{is_true}
use Rattle.lift_ask.proofs.PutLemmas.{says-also}
use Rattle.lift_ask.proofs.putting.put_any.Goals as goal

pub put-requires-clause-parts : goal.put-requires-clause-parts
put-requires-clause-parts c =
    subst (λ (ns : List NodeId). All (λ part. part < length c.args.pool.now) (map (λ part. part.0) ns)) (sym c.from_vec.ensures)
    (All-map (λ part. part < length c.args.pool.now) (λ (n : NodeId). n.0) c.args.nodes.items c.requires)

pub returns-clause-put : goal.returns-clause-put
returns-clause-put c =
    says-also c.args.pool.now c.put.new.pool (λ set. value_at set (pool_values set c.args.pool.now) (node.Any c.from_vec.result)) (λ set. list_any (is_true c.args.pool.now set) c.args.nodes.items) c.in_ok-id.id
    (λ set. ap (λ (ns : List NodeId). list_any (is_true c.args.pool.now set) ns) c.from_vec.ensures) c.in_ok-id.ensures.put
