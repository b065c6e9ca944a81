use Rattle.vkb_tool.proofs.AgreementLemmas.{same_effect, same_place_named, same_status}
use Rattle.vkb_tool.proofs.laws.one_outcome.Goals as goal

pub returns-clause-status : goal.returns-clause-status
returns-clause-status c = same_status c.one_walk.ensures c.one_answer.ensures c.answers_are_one.ensures c.pages_are_one.ensures.one c.one_closure.ensures c.one_order.ensures c.one_verdict.ensures.same c.one_verdict.ensures.apart c.one_verdict.ensures.first

pub returns-clause-same : goal.returns-clause-same
returns-clause-same c = same_effect c.one_walk.ensures c.one_answer.ensures c.answers_are_one.ensures c.pages_are_one.ensures.one c.one_closure.ensures c.one_order.ensures c.one_verdict.ensures.same c.one_verdict.ensures.apart c.one_verdict.ensures.first

pub returns-clause-place : goal.returns-clause-place
returns-clause-place c = same_place_named c.one_walk.ensures c.one_answer.ensures c.answers_are_one.ensures c.pages_are_one.ensures.one c.one_closure.ensures c.one_order.ensures c.one_verdict.ensures.same c.one_verdict.ensures.apart c.one_verdict.ensures.first
