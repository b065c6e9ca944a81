use Rattle.doc_build.proofs.SiteLemmas.{marks-at-some}
use Rattle.doc_build.proofs.laws.marks_at_some_choice.Goals as goal

pub returns : goal.returns
returns c = marks-at-some
