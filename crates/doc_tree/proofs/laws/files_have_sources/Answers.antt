use Rattle.doc_tree.proofs.FoundLemmas.{have_sources}
use Rattle.doc_tree.proofs.laws.files_have_sources.Goals as goal

pub returns : goal.returns
returns c = have_sources c.each_line_is_read.ensures c.each_list_is_paired.ensures
