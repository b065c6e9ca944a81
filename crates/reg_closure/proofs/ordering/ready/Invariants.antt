use Rattle.std.proofs.Common.{◌≡◌, ◌↔◌, ◌<◌, ℕ, Some, Contains, slice_get}
use Rattle.reg_closure.specs.Closure.{IsIn}
use Rattle.reg_closure.proofs.ordering.ready.Given as goal

abbrev pub invariant-loop-place : goal.invariant-loop-place
invariant-loop-place l =
    (place : ℕ) → Contains l.ready.keys place ↔ ((place < l.place) × IsIn l.set place × (slice_get l.counts place ≡ Some 0))
