use Rattle.std.proofs.Common.{◌≡◌, ◌-◌, ◌^◌, length}
use Rattle.sat_core.proofs.heap.Heap.sink.Given as goal

abbrev pub invariant-loop-below : goal.invariant-loop-below
invariant-loop-below l = length l.self.waiting.items ≡ length l.fn.self.waiting.items

abbrev pub decreases-loop-below : goal.decreases-loop-below
decreases-loop-below l = 2 ^ 64 - l.at
