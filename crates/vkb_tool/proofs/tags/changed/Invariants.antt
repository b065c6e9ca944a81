use Rattle.std.proofs.Common.{◌≡◌, ◌+◌, ◌++◌, length, drop, map}
use Rattle.std.specs.Vec.Iter.{into_iter_items}
use Rattle.vkb_tool.specs.Answer.{put_of}
use Rattle.vkb_tool.specs.Tags.{changed as changed_files}
use Rattle.vkb_tool.proofs.tags.changed.Given as goal

-- those so far that change, and those ahead, are all
abbrev pub invariant-loop-bytes : goal.invariant-loop-bytes
invariant-loop-bytes l =
    goal.iterator-loop-bytes.can_next l.bytes-iterator ×
    goal.iterator-loop-bytes.is_finite l.bytes-iterator ×
    (l.at + length (into_iter_items l.bytes-iterator) ≡ length l.names)
    × (map put_of l.puts.items ++ changed_files (drop l.at l.names) (drop l.at l.olds) (into_iter_items l.bytes-iterator) ≡ changed_files l.names l.olds l.fn.news.items)
