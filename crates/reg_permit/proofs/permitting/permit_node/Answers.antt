use Rattle.std.proofs.Common.{length, List, sym, subst}
use Rattle.vkb_formula.specs.declared.pool.NodeId.{NodeId}
use Rattle.reg_permit.specs.Nodes.{SayRules}
use Rattle.reg_permit.proofs.NodeLemmas.{PoolLaws, where-ok}
use Rattle.reg_permit.proofs.RulesLemmas.{all-permitted, all-size, parts-held}
use Rattle.reg_permit.proofs.permitting.permit_node.Goals as goal

pub put-requires : goal.put-requires
put-requires c = parts-held c.put_rules.new.pool c.in_ok-rules.rules.items c.from_vec.result c.from_vec.ensures c.in_ok-rules.ensures.rules.held

pub returns-clause-permitted : goal.returns-clause-permitted
returns-clause-permitted c =
    let laws : PoolLaws = record { formulas = c.nodes_keep_their_meaning.ensures.formulas; count = c.nodes_keep_their_meaning.ensures.count; sums = c.nodes_keep_their_meaning.ensures.sums; shared = c.nodes_keep_their_meaning.ensures.shared } in
    let rules : SayRules c.args.r.now c.put_rules.new.pool (length c.args.r.now.options) c.from_vec.result =
    subst (λ (ps : List NodeId). SayRules c.args.r.now c.put_rules.new.pool (length c.args.r.now.options) ps) (sym c.from_vec.ensures) c.in_ok-rules.ensures.rules in
    where-ok c.put.result _ _ _ _ c.put.ensures.ok c.put.ensures.values c.put.ensures.place
    (λ id all values place. all-permitted laws c.args.r.now c.is_sound.ensures c.put_rules.new.pool c.put.new.self c.from_vec.result id rules all place values)

pub returns-clause-size : goal.returns-clause-size
returns-clause-size c =
    let laws : PoolLaws = record { formulas = c.nodes_keep_their_meaning.ensures.formulas; count = c.nodes_keep_their_meaning.ensures.count; sums = c.nodes_keep_their_meaning.ensures.sums; shared = c.nodes_keep_their_meaning.ensures.shared } in
    let rules : SayRules c.args.r.now c.put_rules.new.pool (length c.args.r.now.options) c.from_vec.result =
    subst (λ (ps : List NodeId). SayRules c.args.r.now c.put_rules.new.pool (length c.args.r.now.options) ps) (sym c.from_vec.ensures) c.in_ok-rules.ensures.rules in
    where-ok c.put.result _ _ _ _ c.put.ensures.ok c.put.ensures.values c.put.ensures.place
    (λ id all values place. all-size laws c.args.r.now c.is_sound.ensures c.put_rules.new.pool c.put.new.self c.from_vec.result id rules all place values)
