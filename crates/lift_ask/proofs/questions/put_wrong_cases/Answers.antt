use Rattle.std.proofs.Common.{◌&&◌, List, sym, subst, get_or, take, ◌+◌, arith}
use Rattle.std.proofs.lemmas.List.{get_or_default}
use Rattle.vkb_formula.specs.declared.pool.NodeId.{NodeId}
use Rattle.lift_nodes.specs.Nodes.{is_true}
use Rattle.lift_survey.specs.declared.Case.{Case}
use Rattle.lift_survey.specs.Survey.{node_at}
use Rattle.lift_ask.specs.Questions.{SayEach, is_wrong_by}
use Rattle.lift_ask.proofs.PutLemmas.{case-kept, each-more}
use Rattle.lift_ask.proofs.questions.put_wrong_cases.Goals as goal

abbrev none : Case
none = record { id = record { 0 = 0 }; node = record { 0 = 0 } }

pub loop-case-preserved : goal.loop-case-preserved
loop-case-preserved c =
    let pool = c.args.pool.now in
    let mid = c.loop-case.pool in
    let wrong = c.args.wrong.now in
    let cases = c.args.cases.now in
    let k = c.loop-case.case-index in
    let item : Case = get_or cases k none in
    subst (λ (nodes : List NodeId). SayEach pool c.put_both.new.pool (λ case set. is_wrong_by pool wrong set case) (take (k + 1) cases) nodes) (sym c.in_ok-push.ensures.items)
    (each-more pool mid c.put_both.new.pool (λ case set. is_wrong_by pool wrong set case) (λ set. is_true mid set item.node && is_true mid set (node_at wrong item.id.0)) cases k item c.loop-case.nodes.items c.in_ok-node.node
    c.loop-case-test.true (get_or_default cases k none item c.loop-case-test.true)
    (case-kept pool mid c.loop-case.invariant.grows wrong item c.requires.wrong (c.requires.nodes k none c.loop-case-test.true) (c.requires.ids k none c.loop-case-test.true)) c.loop-case.invariant c.in_ok-node.ensures.put)

pub put_both-requires-clause-left : goal.put_both-requires-clause-left
put_both-requires-clause-left c = omega (arith, c.requires.nodes c.loop-case.case-index none c.loop-case-test.true, c.loop-case.invariant.grows.count)

pub put_both-requires-clause-right : goal.put_both-requires-clause-right
put_both-requires-clause-right c =
    let item : Case = get_or c.args.cases.now c.loop-case.case-index none in
    omega (arith, c.requires.wrong item.id.0 (record { 0 = 0 }) (c.requires.ids c.loop-case.case-index none c.loop-case-test.true), c.loop-case.invariant.grows.count)
