use Rattle.doc_cond.proofs.Counting.{one_closer}
use Rattle.doc_cond.proofs.one_closer.Goals as goal

pub returns : goal.returns
returns c = one_closer
