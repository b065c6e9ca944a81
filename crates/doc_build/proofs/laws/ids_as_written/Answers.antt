use Rattle.doc_build.proofs.FoundLemmas.{written_so}
use Rattle.doc_build.proofs.laws.ids_as_written.Goals as goal

pub returns : goal.returns
returns c = written_so
