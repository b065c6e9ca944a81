use Rattle.doc_build.proofs.PageLemmas.{pages-of-names}
use Rattle.doc_build.proofs.laws.pages_are_of_names.Goals as goal

pub returns : goal.returns
returns c = pages-of-names
