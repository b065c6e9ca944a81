use Rattle.std.proofs.Common.{◌≡◌, ◌+◌, ◌≤◌, length}
use Rattle.vkb_formula.specs.Pools.{pool_reach}
use Rattle.sat_ask.proofs.tests.many.Given as goal

abbrev pub invariant-loop-place : goal.invariant-loop-place
invariant-loop-place l = record {
  count : length l.pool ≡ l.place + 3;
  reach : pool_reach l.pool ≤ 2;
}
