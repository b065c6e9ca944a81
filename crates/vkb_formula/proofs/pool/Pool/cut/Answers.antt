use Rattle.vkb_formula.proofs.ClosureLemmas.{reach-cut}
use Rattle.vkb_formula.proofs.pool.Pool.cut.Goals as goal

pub returns-clause-reach : goal.returns-clause-reach
returns-clause-reach c =
    rw (← c.self.view_is) (reach-cut c.args.len c.self.inside.nodes.items c.cut_nodes-self-inside.new.nodes.items c.cut_nodes-self-inside.ensures.kept)
