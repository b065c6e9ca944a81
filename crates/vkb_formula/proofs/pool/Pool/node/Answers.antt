use Rattle.std.proofs.Common.{◌<◌, length, refl}
use Rattle.std.proofs.lemmas.Option.{slice_get_read}
use Rattle.vkb_formula.proofs.ClosureLemmas.{reach-greatest}
use Rattle.vkb_formula.proofs.pool.Pool.node.Goals as goal

pub returns-clause-reach : goal.returns-clause-reach
returns-clause-reach c =
    let h : c.args.id.0 < length c.self.inside.nodes.items = rw c.self.view_is c.requires in
    rw (← c.self.view_is) (reach-greatest c.self.inside.nodes.items c.args.id.0 c.index.result.now (slice_get_read c.self.inside.nodes.items (length c.self.inside.nodes.items) c.args.id.0 c.index.result.now refl h c.index.ensures))
