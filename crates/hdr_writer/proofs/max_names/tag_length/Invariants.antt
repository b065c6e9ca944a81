use Rattle.std.proofs.Common.{◌≡◌, ◌-◌, ◌≤◌, drop, length, take}
use Rattle.hdr_writer.specs.MaxNames.{tag_of}
use Rattle.hdr_writer.proofs.max_names.tag_length.Given as goal

abbrev pub invariant-loop-tag : goal.invariant-loop-tag
invariant-loop-tag l = record {
  length_is : l.longest ≡ length (tag_of (take l.tag-index l.tags) l.name);
  within : l.longest ≤ length l.name;
  tag_is : drop (length l.name - l.longest) l.name ≡ tag_of (take l.tag-index l.tags) l.name;
}
