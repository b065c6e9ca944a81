use Rattle.std.proofs.Common.{◌≡◌, ◌≤◌, ◌<◌, length, take, drop, All}
use Rattle.reg_registry.specs.Walks.{with_done}
use Rattle.reg_registry.proofs.circles.walk.finish.Given as goal

abbrev pub invariant-loop-path : goal.invariant-loop-path
invariant-loop-path l = record {
  from : l.start ≤ length l.path.items;
  path : take l.start l.path.items ≡ take l.start l.initial.path.items;
  marks : with_done (drop l.start l.path.items) l.marks.items ≡ with_done (drop l.start l.initial.path.items) l.initial.marks.items;
  known : All (λ name. name < length l.marks.items) l.path.items;
}

abbrev pub decreases-loop-path : goal.decreases-loop-path
decreases-loop-path l = length l.path.items
