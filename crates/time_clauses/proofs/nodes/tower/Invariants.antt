use Rattle.std.proofs.Common.{◌≡◌, ◌+◌, ◌≤◌, length}
use Rattle.vkb_formula.specs.Pools.{pool_reach}
use Rattle.time_clauses.proofs.nodes.tower.Given as goal

abbrev pub invariant-loop-below : goal.invariant-loop-below
invariant-loop-below l = record {
  count : length l.pool ≡ l.below + 1;
  reach : pool_reach l.pool ≤ 1;
}
