use Rattle.std.proofs.Common.{◌≡◌, take, string_bytes}
use Rattle.std.specs.List.{flat_map}
use Rattle.vkb_gen.specs.Chapter.{part_of}
use Rattle.vkb_gen.proofs.chapter.chapter_text.Given as goal

-- the parts of the items so far are put
abbrev pub invariant-loop-item : goal.invariant-loop-item
invariant-loop-item l = string_bytes l.text ≡ flat_map part_of (take l.item-index l.items)
