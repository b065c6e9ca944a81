use Rattle.lift_ask.specs.Questions.{is_wrong_by}
use Rattle.lift_ask.proofs.PutLemmas.{each-any}
use Rattle.lift_ask.proofs.questions.put_question.Goals as goal

pub returns-clause-put : goal.returns-clause-put
returns-clause-put c =
    each-any c.args.pool.now c.put_wrong_cases.new.pool c.put_any.new.pool (λ case set. is_wrong_by c.args.pool.now c.args.wrong.now set case) c.args.cases.now c.in_ok-nodes.nodes.items c.in_ok-node.node
    c.in_ok-nodes.ensures.cases c.in_ok-node.ensures.put
