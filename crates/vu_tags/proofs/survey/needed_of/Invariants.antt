use Rattle.std.proofs.Common.{◌≡◌, ◌≤◌, length, take}
use Rattle.std.specs.List.{sum_by}
use Rattle.vu_tags.specs.Statements.{untagged_in}
use Rattle.vu_tags.proofs.survey.needed_of.Given as goal

abbrev pub invariant-loop-file : goal.invariant-loop-file
invariant-loop-file l = record {
  value : l.needed ≡ sum_by untagged_in (take l.file-index l.files);
  few : l.needed ≤ sum_by length (take l.file-index l.files);
}
