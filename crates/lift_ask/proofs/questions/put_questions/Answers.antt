use Rattle.std.proofs.Common.{List, sym, subst, take, ◌+◌, length, ◌<◌, All, arith}
use Rattle.std.specs.List.{list_any}
use Rattle.std.proofs.lemmas.List.Elements.{All-get_or, All-weaker}
use Rattle.vkb_formula.specs.declared.pool.NodeId.{NodeId}
use Rattle.lift_survey.specs.declared.Case.{Case}
use Rattle.lift_survey.specs.declared.LiftedMark.{LiftedMark}
use Rattle.lift_survey.specs.Survey.{AreHeld}
use Rattle.lift_ask.specs.Questions.{SayEach, SaysOf, is_wrong_by}
use Rattle.lift_ask.proofs.PutLemmas.{cases-kept, each-more}
use Rattle.lift_ask.proofs.questions.put_questions.Goals as goal

pub put_question-requires-clause-nodes : goal.put_question-requires-clause-nodes
put_question-requires-clause-nodes c =
    let pool = c.args.pool.now in
    let mid = c.loop-link.pool in
    let item = c.link-item.result in
    let there = subst (AreHeld (length pool) (length c.args.wrong.now)) (sym c.link-item.is) (All-get_or (AreHeld (length pool) (length c.args.wrong.now)) c.args.links.now c.loop-link.link-index item c.loop-link-test.true c.requires.links) in
    subst (All (λ (case : Case). case.node.0 < length mid)) (sym c.as_slice.ensures)
    (All-weaker (λ (case : Case). case.node.0 < length pool) (λ (case : Case). case.node.0 < length mid) (λ case below. omega (arith, below, c.loop-link.invariant.grows.count)) item.cases there.node)

pub put_question-requires-clause-ids : goal.put_question-requires-clause-ids
put_question-requires-clause-ids c =
    let wrong = c.args.wrong.now in
    let item = c.link-item.result in
    let there = subst (AreHeld (length c.args.pool.now) (length wrong)) (sym c.link-item.is) (All-get_or (AreHeld (length c.args.pool.now) (length wrong)) c.args.links.now c.loop-link.link-index item c.loop-link-test.true c.requires.links) in
    subst (All (λ (case : Case). case.id.0 < length wrong)) (sym c.as_slice.ensures) there.id

pub loop-link-preserved : goal.loop-link-preserved
loop-link-preserved c =
    let pool = c.args.pool.now in
    let mid = c.loop-link.pool in
    let new = c.put_question.new.pool in
    let wrong = c.args.wrong.now in
    let links = c.args.links.now in
    let k = c.loop-link.link-index in
    let item = c.link-item.result in
    let there = subst (AreHeld (length pool) (length wrong)) (sym c.link-item.is) (All-get_or (AreHeld (length pool) (length wrong)) links k item c.loop-link-test.true c.requires.links) in
    let put : SaysOf mid new (λ set. list_any (is_wrong_by mid wrong set) item.cases) c.in_ok-node.node =
    subst (λ (cs : List Case). SaysOf mid new (λ set. list_any (is_wrong_by mid wrong set) cs) c.in_ok-node.node) c.as_slice.ensures c.in_ok-node.ensures.put in
    subst (λ (nodes : List NodeId). SayEach pool new (λ (link : LiftedMark) set. list_any (is_wrong_by pool wrong set) link.cases) (take (k + 1) links) nodes) (sym c.in_ok-push.ensures.items)
    (each-more pool mid new (λ (link : LiftedMark) set. list_any (is_wrong_by pool wrong set) link.cases) (λ set. list_any (is_wrong_by mid wrong set) item.cases) links k item c.loop-link.questions.items c.in_ok-node.node
    c.loop-link-test.true c.link-item.is (cases-kept pool mid c.loop-link.invariant.grows wrong item.cases c.requires.wrong there.node there.id) c.loop-link.invariant put)
