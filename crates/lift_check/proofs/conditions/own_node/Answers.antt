use Rattle.std.proofs.Common.{◌∙◌, ap, sym, refl, not, cond, Bool, List}
use Rattle.std.specs.List.{list_all, list_any}
use Rattle.vkb_formula.specs.declared.name_table.NameId.{NameId}
use Rattle.vkb_formula.specs.declared.pool.PoolNode.TheVariants as node
use Rattle.doc_build.specs.Choices.{Choice}
use Rattle.lift_check.specs.Nodes.{has_name, meets}
use Rattle.lift_check.proofs.NodesLemmas.{IfOk-put, IfOk-then, IsNode-then, Keeps-same, holds-alike}
use Rattle.lift_check.proofs.conditions.own_node.Goals as goal

pub returns-then-cond : goal.returns-then-cond
returns-then-cond c =
    let options = c.args.options.now in
    let own = c.args.cond.now in
    let pool = c.args.pool.now in
    let test = λ (choice : Choice). has_name options choice in
    let held = λ (choice : Choice). cond own.any (list_any (test choice) own.names) (list_all (test choice) own.names) in
    let names = c.in_ok-nodes.ensures pool c.requires in
    let joined = IsNode-then pool pool c.joined.new.pool c.in_ok-held.held _ held (Keeps-same pool) c.in_ok-held.ensures (λ choice.
    holds-alike own.any _ (test choice) c.in_ok-nodes.nodes.items c.as_slice.result.now (names.values choice)
    ∙ ap (λ (ns : List NameId). cond own.any (list_any (test choice) ns) (list_all (test choice) ns)) c.as_slice.ensures) in
    IfOk-then c.put.result pool c.joined.new.pool c.put.new.pool (λ choice. not (held choice)) (λ choice. meets options choice own) joined.keeps
    (IfOk-put c.put.result c.joined.new.pool c.put.new.pool (node.Not c.in_ok-held.held) _ c.put.ensures refl (λ choice. ap not (joined.value choice)))
    (λ choice. sym (ap (λ (n : Bool). cond n (not (held choice)) (held choice)) c.if-cond.true))

pub returns : goal.returns
returns c =
    let options = c.args.options.now in
    let own = c.args.cond.now in
    let pool = c.args.pool.now in
    let test = λ (choice : Choice). has_name options choice in
    let held = λ (choice : Choice). cond own.any (list_any (test choice) own.names) (list_all (test choice) own.names) in
    let names = c.in_ok-nodes.ensures pool c.requires in
    IsNode-then pool pool c.joined.new.pool c.in_ok-held.held _ (λ choice. meets options choice own) (Keeps-same pool) c.in_ok-held.ensures (λ choice.
    holds-alike own.any _ (test choice) c.in_ok-nodes.nodes.items c.as_slice.result.now (names.values choice)
    ∙ (ap (λ (ns : List NameId). cond own.any (list_any (test choice) ns) (list_all (test choice) ns)) c.as_slice.ensures
    ∙ sym (ap (λ (n : Bool). cond n (not (held choice)) (held choice)) c.if-cond.false)))
