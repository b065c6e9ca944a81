use Rattle.std.proofs.Common.{◌≡◌, ◌∙◌, ◌++◌, ap, length, map, ◌∷◌, []}
use Rattle.reg_closure.specs.Made.{node_at}
use Rattle.reg_closure.proofs.MadeLemmas.{named-held}
use Rattle.reg_closure.proofs.nodes.name_node.Goals as goal

pub put-requires : goal.put-requires
put-requires c =
    let ids = c.args.ids.now in
    let places = c.args.namers.now in
    let parts : c.from_vec.result ≡ c.args.root ∷ map (node_at ids) places =
    c.from_vec.ensures ∙ (c.in_ok-push_nodes.ensures ∙ ap (λ ns. ns ++ map (node_at ids) places) (c.in_ok-push.ensures.items ∙ ap (λ ns. ns ++ c.args.root ∷ []) c.in_ok-parts.ensures.items)) in
    named-held (length c.args.pool.now) c.args.root ids places c.from_vec.result parts c.requires.root c.requires.held c.requires.within
