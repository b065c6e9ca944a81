use Rattle.std.proofs.Common.{◌≡◌, ◌+◌, ◌++◌, drop}
use Rattle.std.specs.List.{sum_by}
use Rattle.vu_tags.specs.Statements.{needed_of, untagged_in}
use Rattle.vu_tags.specs.Tagged.{Names, TellsPages, tagged_from}
use Rattle.vu_tags.proofs.writing.write_files.Given as goal

-- the files so far with their tags, and those ahead with theirs, are all
abbrev pub invariant-loop-file : goal.invariant-loop-file
invariant-loop-file l = record {
  count : l.number + sum_by untagged_in (drop l.file-index l.files) ≡ l.start + needed_of l.files;
  are_all : (names : Names) → TellsPages names
      → l.texts.items ++ tagged_from names l.number (drop l.file-index l.files) ≡ tagged_from names l.start l.files;
}
