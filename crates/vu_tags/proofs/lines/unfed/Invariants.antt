use Rattle.std.proofs.Common.{length, take, ◌+◌, ◌≡◌, ◌≤◌}
use Rattle.std.specs.List.{suffix_len}
use Rattle.vu_tags.specs.Lines.{is_line_feed}
use Rattle.vu_tags.proofs.lines.unfed.Given as goal

abbrev pub invariant-loop-end : goal.invariant-loop-end
invariant-loop-end l = (l.end ≤ length l.line) × (l.end + suffix_len is_line_feed l.line ≡ length l.line + suffix_len is_line_feed (take l.end l.line))

abbrev pub decreases-loop-end : goal.decreases-loop-end
decreases-loop-end l = l.end
