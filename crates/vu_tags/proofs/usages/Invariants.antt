use Rattle.std.proofs.Common.{◌≡◌, ◌≤◌, ◌-◌, ◌++◌, length, drop}
use Rattle.vu_tags.specs.Lines.{lines_of}
use Rattle.vu_tags.specs.Progress.{usages_ahead}
use Rattle.vu_tags.specs.Statements.{usages_of}
use Rattle.vu_tags.proofs.usages.Given as goal

-- the statements so far, and those ahead, are all
abbrev pub invariant-loop-at : goal.invariant-loop-at
invariant-loop-at l = record {
  in_file : l.at ≤ length l.file;
  few : l.number ≤ l.at;
  are_all : l.usages.items ++ usages_ahead l.block l.number (lines_of (drop l.at l.file)) ≡ usages_of l.file;
}

abbrev pub decreases-loop-at : goal.decreases-loop-at
decreases-loop-at l = length l.file - l.at
