use Rattle.std.proofs.Common.{length, take, ◌+◌, ◌≡◌, ◌≤◌}
use Rattle.std.specs.Prelude.{not, ◌==◌}
use Rattle.std.specs.List.{suffix_len}
use Rattle.vu_tags.proofs.tags.last_part.Given as goal

abbrev pub invariant-loop-from : goal.invariant-loop-from
invariant-loop-from l = (l.from ≤ length l.text) × (l.from + suffix_len (λ b. not (b == 45)) l.text ≡ length l.text + suffix_len (λ b. not (b == 45)) (take l.from l.text))

abbrev pub decreases-loop-from : goal.decreases-loop-from
decreases-loop-from l = l.from
