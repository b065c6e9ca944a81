use Rattle.std.proofs.Common.{◌≡◌, ◌≤◌, ◌-◌, ◌+◌, ◌++◌, length, drop}
use Rattle.vu_tags.specs.Lines.{lines_of}
use Rattle.vu_tags.specs.Progress.{tagged_ahead, untagged_ahead}
use Rattle.vu_tags.specs.Statements.{untagged_in}
use Rattle.vu_tags.specs.Tagged.{Names, TellsPages, tagged_file}
use Rattle.vu_tags.proofs.writing.write_file.Given as goal

-- the lines so far with their tags, and those ahead with theirs, are the file with its tags
abbrev pub invariant-loop-at : goal.invariant-loop-at
invariant-loop-at l = record {
  in_file : l.at ≤ length l.file;
  count : l.number + untagged_ahead l.block (lines_of (drop l.at l.file)) ≡ l.first + untagged_in l.file;
  are_all : (names : Names) → TellsPages names
      → l.text.items ++ tagged_ahead names l.block l.page l.number (lines_of (drop l.at l.file)) ≡ tagged_file names l.first l.file;
}

abbrev pub decreases-loop-at : goal.decreases-loop-at
decreases-loop-at l = length l.file - l.at
