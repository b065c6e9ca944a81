use Rattle.std.proofs.Common.{◌-◌, length}
use Rattle.reg_registry.specs.Ways.{AreLookedAt, IsSearch}
use Rattle.reg_registry.proofs.circles.way.way_round.Given as goal

abbrev pub invariant-loop-place : goal.invariant-loop-place
invariant-loop-place l = record {
  search : IsSearch l.rows l.first l.search;
  looked : AreLookedAt l.rows l.first l.search l.place;
}

abbrev pub decreases-loop-place : goal.decreases-loop-place
decreases-loop-place l = length l.rows - l.place
