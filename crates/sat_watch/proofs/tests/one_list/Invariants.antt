use Rattle.std.proofs.Common.{◌≡◌, length}
use Rattle.sat_watch.proofs.tests.one_list.Given as goal

abbrev pub invariant-loop-clause : goal.invariant-loop-clause
invariant-loop-clause l = length l.watches.lists ≡ 3
