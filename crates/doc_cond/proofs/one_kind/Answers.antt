use Rattle.doc_cond.specs.Lines.{bare}
use Rattle.doc_cond.proofs.Uniqueness.{one_kind}
use Rattle.doc_cond.proofs.one_kind.Goals as goal

pub returns : goal.returns
returns c = λ line kind other. one_kind kind other (bare line)
