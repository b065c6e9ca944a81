use Rattle.std.proofs.Common.{◌≡◌, length}
use Rattle.std.specs.Prelude.{count_by}
use Rattle.std.specs.Option.{option_copied}
use Rattle.doc_marks.specs.Marks.{marks_of}
use Rattle.doc_build.specs.Counting.{is_anchor_of}
use Rattle.doc_build.proofs.CountLemmas.{Counts}
use Rattle.doc_build.proofs.counting.anchors_in.Given as goal

abbrev pub decreases-loop-mark : goal.decreases-loop-mark
decreases-loop-mark l = length l.marks.left

-- the anchors so far, and those ahead, are all
abbrev pub invariant-loop-mark : goal.invariant-loop-mark
invariant-loop-mark l =
    (l.marks.line ≡ l.line)
    × Counts l.count (count_by (is_anchor_of (option_copied l.page) l.id l.line) l.marks.left) (count_by (is_anchor_of (option_copied l.page) l.id l.line) (marks_of l.line))
