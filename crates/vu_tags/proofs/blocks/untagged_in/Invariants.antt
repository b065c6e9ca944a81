use Rattle.std.proofs.Common.{◌≡◌, ◌≤◌, ◌-◌, ◌+◌, length, drop}
use Rattle.vu_tags.specs.Lines.{lines_of}
use Rattle.vu_tags.specs.Progress.{untagged_ahead}
use Rattle.vu_tags.specs.Statements.{untagged_in}
use Rattle.vu_tags.proofs.blocks.untagged_in.Given as goal

abbrev pub invariant-loop-at : goal.invariant-loop-at
invariant-loop-at l = record {
  in_file : l.at ≤ length l.file;
  few : l.count ≤ l.at;
  are_all : l.count + untagged_ahead l.block (lines_of (drop l.at l.file)) ≡ untagged_in l.file;
}

abbrev pub decreases-loop-at : goal.decreases-loop-at
decreases-loop-at l = length l.file - l.at
