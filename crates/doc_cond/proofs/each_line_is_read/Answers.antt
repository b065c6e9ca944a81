use Rattle.doc_cond.specs.Lines.{bare}
use Rattle.doc_cond.proofs.EveryLine.{kind_or_bad}
use Rattle.doc_cond.proofs.each_line_is_read.Goals as goal

pub returns : goal.returns
returns c = λ line. kind_or_bad (bare line)
