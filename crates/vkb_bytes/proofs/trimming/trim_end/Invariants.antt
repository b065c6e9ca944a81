use Rattle.std.proofs.Common.{length, take, ◌+◌, ◌≡◌, ◌≤◌}
use Rattle.std.specs.List.{suffix_len}
use Rattle.vkb_bytes.specs.Bytes.{is_white}
use Rattle.vkb_bytes.proofs.trimming.trim_end.Given as goal

-- what was passed is white
abbrev pub invariant-loop-end : goal.invariant-loop-end
invariant-loop-end l = (l.end ≤ length l.text) × (l.end + suffix_len is_white l.text ≡ length l.text + suffix_len is_white (take l.end l.text))

abbrev pub decreases-loop-end : goal.decreases-loop-end
decreases-loop-end l = l.end
