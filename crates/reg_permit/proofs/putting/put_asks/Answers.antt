use Rattle.std.proofs.Common.{◌∙◌}
use Rattle.reg_permit.proofs.NodeLemmas.{PoolLaws, asks-parts, where-ok}
use Rattle.reg_permit.proofs.putting.put_asks.Goals as goal

pub returns-clause-node : goal.returns-clause-node
returns-clause-node c =
    let laws : PoolLaws = record { formulas = c.nodes_keep_their_meaning.ensures.formulas; count = c.nodes_keep_their_meaning.ensures.count; sums = c.nodes_keep_their_meaning.ensures.sums; shared = c.nodes_keep_their_meaning.ensures.shared } in
    where-ok c.put-3.result _ _ _ _ c.put-3.ensures.ok c.put-3.ensures.values c.put-3.ensures.place
    (λ id all values place.
    asks-parts laws c.args.pool.now c.put.new.self c.put-2.new.self c.put-3.new.self c.args.place c.args.asked c.in_ok-chosen.chosen c.in_ok-left.left id c.from_vec-parts.result
    (c.from_vec-parts.ensures ∙ c.in_ok-vec.ensures.items)
    c.in_ok-chosen.ensures.ok c.in_ok-chosen.ensures.place c.in_ok-chosen.ensures.values
    c.in_ok-left.ensures.ok c.in_ok-left.ensures.place c.in_ok-left.ensures.values
    all place values c.requires)
