use Rattle.std.proofs.Common.{◌≡◌, ◌<◌, ◌^◌, false, take}
use Rattle.std.specs.List.{list_any}
use Rattle.vu_tags.specs.Tags.{has_malformed, start_of}
use Rattle.vu_tags.proofs.survey.start_of.Given as goal

abbrev pub invariant-loop-file : goal.invariant-loop-file
invariant-loop-file l = record {
  small : l.start < 2 ^ 31;
  well : list_any has_malformed (take l.file l.files) ≡ false;
  start_is : l.start ≡ start_of l.first (take l.file l.files);
}
