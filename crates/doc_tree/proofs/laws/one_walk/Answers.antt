use Rattle.doc_tree.proofs.UniqueLemmas.{same_sources}
use Rattle.doc_tree.proofs.laws.one_walk.Goals as goal

pub returns : goal.returns
returns c = same_sources c.one_kind.ensures c.one_closer.ensures
