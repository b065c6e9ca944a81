use Rattle.std.proofs.Common.{◌≡◌, ◌<◌, Some, false, slice_get}
use Rattle.reg_closure.specs.Closure.{IsIn}
use Rattle.reg_closure.specs.Marking.{Marks}
use Rattle.reg_closure.proofs.closing.Marking.mark_kept.Given as goal

abbrev pub invariant-loop-name : goal.invariant-loop-name
invariant-loop-name l = Marks (λ place. (place < l.name) × IsIn l.required place × (slice_get l.removed place ≡ Some false)) l.fn.self l.self
