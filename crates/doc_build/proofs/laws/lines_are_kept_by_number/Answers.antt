use Rattle.doc_build.proofs.KeepingLemmas.{keeps-lines}
use Rattle.doc_build.proofs.laws.lines_are_kept_by_number.Goals as goal

pub returns : goal.returns
returns c = keeps-lines
