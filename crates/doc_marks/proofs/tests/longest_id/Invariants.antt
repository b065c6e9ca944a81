use Rattle.std.proofs.Common.{◌≡◌, length}
use Rattle.doc_marks.proofs.tests.longest_id.Given as goal

-- the marks are those of the line
abbrev pub invariant-loop-mark : goal.invariant-loop-mark
invariant-loop-mark l = l.marks.line ≡ l.line

abbrev pub decreases-loop-mark : goal.decreases-loop-mark
decreases-loop-mark l = length l.marks.left
