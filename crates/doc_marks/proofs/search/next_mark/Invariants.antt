use Rattle.std.proofs.Common.{◌≡◌, ◌-◌, ◌≤◌, length}
use Rattle.doc_marks.specs.Marks.{marks_from}
use Rattle.doc_marks.proofs.search.next_mark.Given as goal

-- no mark begins at the places that were passed
abbrev pub invariant-loop-step : goal.invariant-loop-step
invariant-loop-step l = record {
  in_line : l.scan ≤ length l.line;
  none_passed : marks_from l.line l.scan ≡ marks_from l.line l.fn.scan;
}

abbrev pub decreases-loop-step : goal.decreases-loop-step
decreases-loop-step l = length l.line - l.scan
