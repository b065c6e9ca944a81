use Rattle.doc_marks.proofs.ListLemmas.{lists_marks}
use Rattle.doc_marks.proofs.marks_follow_the_rule.Goals as goal

pub returns : goal.returns
returns c = lists_marks c.args.line.now
