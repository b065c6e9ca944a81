use Rattle.std.proofs.Common.{length, take, ◌+◌, ◌≡◌, ◌≤◌, ◌||◌, ◌==◌}
use Rattle.std.specs.List.{suffix_len}
use Rattle.doc_cond.specs.Lines.{is_blank}
use Rattle.doc_cond.proofs.spans.bare.Given as goal

abbrev pub invariant-loop-end : goal.invariant-loop-end
invariant-loop-end l = (l.end ≤ length l.line) × (l.end + suffix_len (λ b. is_blank b || b == 13) l.line ≡ length l.line + suffix_len (λ b. is_blank b || b == 13) (take l.end l.line))

abbrev pub decreases-loop-end : goal.decreases-loop-end
decreases-loop-end l = l.end
