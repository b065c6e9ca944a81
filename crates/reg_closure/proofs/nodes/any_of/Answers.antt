use Rattle.std.proofs.Common.{◌≡◌, ◌∙◌, ◌++◌, ap, length, map}
use Rattle.vkb_formula.specs.declared.pool.PoolNode.TheVariants as node
use Rattle.reg_closure.specs.Made.{IsPut, node_at}
use Rattle.reg_closure.proofs.MadeLemmas.{IfOk-map, any-made, parts-held}
use Rattle.reg_closure.proofs.nodes.any_of.Goals as goal

pub put-requires : goal.put-requires
put-requires c =
    let ids = c.args.ids.now in
    let places = c.args.places.now in
    let parts : c.from_vec.result ≡ map (node_at ids) places = c.from_vec.ensures ∙ (c.in_ok-push_nodes.ensures ∙ ap (λ ns. ns ++ map (node_at ids) places) c.in_ok-parts.ensures.items) in
    parts-held (length c.args.pool.now) ids places c.from_vec.result parts c.requires.held c.requires.within

pub returns-clause-made : goal.returns-clause-made
returns-clause-made c =
    let ids = c.args.ids.now in
    let places = c.args.places.now in
    let parts : c.from_vec.result ≡ map (node_at ids) places = c.from_vec.ensures ∙ (c.in_ok-push_nodes.ensures ∙ ap (λ ns. ns ++ map (node_at ids) places) c.in_ok-parts.ensures.items) in
    IfOk-map c.put.result (IsPut c.args.pool.now (node.Any c.from_vec.result) c.put.new.pool) _
    (λ id put. any-made c.args.pool.now c.put.new.pool id ids places c.from_vec.result parts put) c.put.ensures.put
