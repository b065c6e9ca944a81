use Rattle.std.proofs.Common.{refl}
use Rattle.lift_check.proofs.NodesLemmas.{HoldsOptions-keeps, IfOk-both}
use Rattle.lift_check.proofs.conditions.inner_node.Goals as goal

pub both-requires-clause-always : goal.both-requires-clause-always
both-requires-clause-always c =
    (HoldsOptions-keeps c.args.options.now.count c.args.pool.now c.own_node.new.pool c.requires.holds c.in_ok-own.ensures.keeps).always

pub returns : goal.returns
returns c =
    IfOk-both c.both.result c.args.pool.now c.own_node.new.pool c.both.new.pool c.args.around c.in_ok-own.own _ _ c.requires.within c.in_ok-own.ensures c.both.ensures (λ choice. refl)
