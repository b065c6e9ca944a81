use Rattle.std.proofs.Common.{ap, not}
use Rattle.lift_nodes.specs.Nodes.{is_true}
use Rattle.lift_survey.proofs.GrowthLemmas.{Grows-by}
use Rattle.lift_ask.specs.Questions.{isnt_one}
use Rattle.lift_ask.proofs.PutLemmas.{says-then}
use Rattle.lift_ask.proofs.questions.put_isnt_one.Goals as goal

pub returns-clause-put : goal.returns-clause-put
returns-clause-put c =
    let pool = c.args.pool.now in
    let mid = c.put_exactly_one.new.pool in
    says-then pool mid c.put_not.new.pool (λ set. not (is_true mid set c.in_ok-one.one)) (isnt_one pool c.args.nodes.now) c.in_ok-node.node
    (Grows-by pool mid c.nodes_keep_their_meaning.ensures.formulas c.in_ok-one.ensures.before c.in_ok-one.ensures.reach)
    (λ set. ap not (c.in_ok-one.ensures.node.value set)) c.in_ok-node.ensures.put
