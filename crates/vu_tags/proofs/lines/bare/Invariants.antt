use Rattle.std.proofs.Common.{length, take, ◌+◌, ◌≡◌, ◌≤◌}
use Rattle.std.specs.List.{suffix_len}
use Rattle.doc_cond.specs.Lines.{is_end_blank}
use Rattle.vu_tags.proofs.lines.bare.Given as goal

abbrev pub invariant-loop-end : goal.invariant-loop-end
invariant-loop-end l = (l.end ≤ length l.line) × (l.end + suffix_len is_end_blank l.line ≡ length l.line + suffix_len is_end_blank (take l.end l.line))

abbrev pub decreases-loop-end : goal.decreases-loop-end
decreases-loop-end l = l.end
