use Rattle.vkb_tool.proofs.WordsLemmas.{one_position, same_request}
use Rattle.vkb_tool.proofs.laws.one_reading.Goals as goal

pub returns-clause-request : goal.returns-clause-request
returns-clause-request c = same_request

pub returns-clause-position : goal.returns-clause-position
returns-clause-position c = one_position

pub returns-clause-apart : goal.returns-clause-apart
returns-clause-apart c = λ words request position spelled misplaced. misplaced.none request spelled
