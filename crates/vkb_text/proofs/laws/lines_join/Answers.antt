use Rattle.vkb_text.proofs.LineLemmas.{lines_joined, lines_only, lines_unfed}
use Rattle.vkb_text.proofs.laws.lines_join.Goals as goal

pub returns-clause-unfed : goal.returns-clause-unfed
returns-clause-unfed c = lines_unfed

pub returns-clause-joined : goal.returns-clause-joined
returns-clause-joined c = lines_joined

pub returns-clause-only : goal.returns-clause-only
returns-clause-only c = lines_only
