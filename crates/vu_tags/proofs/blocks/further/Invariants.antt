use Rattle.std.proofs.Common.{◌≡◌, ◌≤◌, ◌-◌, ◌+◌, ◌++◌, length, drop, take}
use Rattle.std.specs.List.{concat}
use Rattle.vu_tags.specs.Lines.{lines_of}
use Rattle.vu_tags.specs.Statements.{further_lines}
use Rattle.vu_tags.proofs.blocks.further.Given as goal

-- the lines so far, and those ahead that the statement goes on with, are all
abbrev pub invariant-loop-at : goal.invariant-loop-at
invariant-loop-at l = record {
  in_text : l.at ≤ length l.text;
  few : l.lines ≤ l.at;
  lines_are : l.lines + length (further_lines (lines_of (drop l.at l.text))) ≡ length (further_lines (lines_of l.text));
  bytes_are : take l.at l.text ++ concat (further_lines (lines_of (drop l.at l.text))) ≡ concat (further_lines (lines_of l.text));
}

abbrev pub decreases-loop-at : goal.decreases-loop-at
decreases-loop-at l = length l.text - l.at
