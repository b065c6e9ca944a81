use Rattle.vkb_tool.proofs.AgreementLemmas.{same_fault}
use Rattle.vkb_tool.proofs.laws.one_fault.Goals as goal

pub returns : goal.returns
returns c = same_fault c.one_walk.ensures c.one_answer.ensures c.answers_are_one.ensures
