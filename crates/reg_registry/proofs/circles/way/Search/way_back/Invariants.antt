use Rattle.std.proofs.Common.{reverse}
use Rattle.reg_registry.specs.Ways.{IsWayFrom}
use Rattle.reg_registry.proofs.circles.way.Search.way_back.Given as goal

abbrev pub invariant-loop-at : goal.invariant-loop-at
invariant-loop-at l = IsWayFrom l.rows l.first l.self.met l.at (reverse l.back.items)

abbrev pub decreases-loop-at : goal.decreases-loop-at
decreases-loop-at l = l.at
