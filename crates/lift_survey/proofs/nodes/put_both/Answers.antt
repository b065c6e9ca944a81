use Rattle.std.proofs.Common.{◌≡◌, ◌∙◌, refl, ◌∷◌, []}
use Rattle.vkb_formula.specs.Pools.{pool_values}
use Rattle.vkb_formula.specs.declared.pool.PoolNode.TheVariants as node
use Rattle.lift_survey.proofs.GrowthLemmas.{Grows-same, all-of-two, both-left, both-right, put-grows, put-held, put-value, same-true}
use Rattle.lift_survey.proofs.nodes.put_both.Goals as goal

pub returns-then-right-always-clause-grows : goal.returns-then-right-always-clause-grows
returns-then-right-always-clause-grows c = Grows-same c.args.pool.now

pub returns-then-left-always-clause-grows : goal.returns-then-left-always-clause-grows
returns-then-left-always-clause-grows c = Grows-same c.args.pool.now

pub returns-then-right-always-clause-node : goal.returns-then-right-always-clause-node
returns-then-right-always-clause-node c =
    both-right c.args.pool.now c.args.left c.args.right c.requires.left (same-true c.args.pool.now c.args.right c.args.always c.if-right-always.true c.requires.always)

pub returns-then-left-always-clause-node : goal.returns-then-left-always-clause-node
returns-then-left-always-clause-node c =
    both-left c.args.pool.now c.args.left c.args.right c.requires.right (same-true c.args.pool.now c.args.left c.args.always c.if-left-always.true c.requires.always)

pub returns-clause-grows : goal.returns-clause-grows
returns-clause-grows c =
    put-grows c.args.pool.now c.put.new.self (node.All c.from_vec.result) c.in_ok-node.node c.nodes_keep_their_meaning.ensures.count refl c.in_ok-node.ensures.ok c.in_ok-node.ensures.place c.in_ok-node.ensures.reach c.in_ok-node.ensures.values

pub returns-clause-node : goal.returns-clause-node
returns-clause-node c =
    let pool = c.args.pool.now in
    let parts : c.from_vec.result ≡ c.args.left ∷ c.args.right ∷ [] = c.from_vec.ensures ∙ c.in_ok-parts.ensures.items in
    record {
      held = put-held pool c.put.new.self (node.All c.from_vec.result) c.in_ok-node.node c.nodes_keep_their_meaning.ensures.count refl c.in_ok-node.ensures.ok c.in_ok-node.ensures.place c.in_ok-node.ensures.reach c.in_ok-node.ensures.values;
      value = λ set.
          put-value pool c.put.new.self (node.All c.from_vec.result) c.in_ok-node.node c.nodes_keep_their_meaning.ensures.count refl c.in_ok-node.ensures.ok c.in_ok-node.ensures.place c.in_ok-node.ensures.reach c.in_ok-node.ensures.values set
          ∙ all-of-two set (pool_values set pool) c.args.left c.args.right c.from_vec.result parts;
    }
