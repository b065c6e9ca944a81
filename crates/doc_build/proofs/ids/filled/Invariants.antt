use Rattle.std.proofs.Common.{◌≡◌, ◌-◌, ◌≤◌, ◌++◌, drop, length}
use Rattle.doc_build.specs.Ids.{filled_from}
use Rattle.doc_build.proofs.ids.filled.Given as goal

abbrev pub decreases-loop-at : goal.decreases-loop-at
decreases-loop-at l = length l.written - l.at

-- the id so far, and what is ahead, is all
abbrev pub invariant-loop-at : goal.invariant-loop-at
invariant-loop-at l = (l.at ≤ length l.written) × (l.id.items ++ filled_from l.page 0 (drop l.at l.written) ≡ filled_from l.page 0 l.written)
