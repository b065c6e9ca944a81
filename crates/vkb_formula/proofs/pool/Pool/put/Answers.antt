use Rattle.std.proofs.Common.{ap, arith, ◌∷◌, []}
use Rattle.vkb_formula.specs.Pools.{pool_reach}
use Rattle.vkb_formula.proofs.PoolLemmas.{IsPool-push, pool_size-push}
use Rattle.vkb_formula.proofs.PoolValueLemmas.{values-push}
use Rattle.vkb_formula.proofs.TreeLemmas.{pool_reach-append}
use Rattle.vkb_formula.proofs.pool.Pool.put.Goals as goal

pub returns-clause-reach : goal.returns-clause-reach
returns-clause-reach c =
    omega (arith, ap pool_reach c.in_ok-push.ensures.items, ap pool_reach c.self.view_is, pool_reach-append c.self.inside.nodes.items (c.args.node ∷ []))

pub returns-clause-values : goal.returns-clause-values
returns-clause-values c set = rw (c.in_ok-push.ensures.items, ← c.self.view_is) (values-push set c.self.inside.nodes.items c.args.node)

pub invariant_of-self-2 : goal.invariant_of-self-2
invariant_of-self-2 c =
    rw c.in_ok-push.ensures.items (
      IsPool-push c.self.inside.nodes.items c.args.node c.self.invariant.0 (rw c.self.view_is c.requires),
      omega (arith, pool_size-push c.self.inside.nodes.items c.args.node, c.self.invariant.1, c.in-Some.ensures, c.entries.ensures),
    )
