use Rattle.doc_cond.proofs.EveryNest.{pairs_or_fault}
use Rattle.doc_cond.proofs.each_list_is_paired.Goals as goal

pub returns : goal.returns
returns c = pairs_or_fault
