use Rattle.doc_build.proofs.AskedLemmas.{texts-asked}
use Rattle.doc_build.proofs.laws.texts_are_of_names_asked.Goals as goal

pub returns : goal.returns
returns c = texts-asked
