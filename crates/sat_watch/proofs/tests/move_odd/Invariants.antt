use Rattle.std.proofs.Common.{◌≡◌, ◌<◌, length, IfSome}
use Rattle.sat_watch.specs.Watching.{list_at, rest_from}
use Rattle.sat_watch.proofs.WalkLemmas.{IsWalk}
use Rattle.sat_watch.proofs.tests.move_odd.Given as goal

abbrev pub invariant-loop-at : goal.invariant-loop-at
invariant-loop-at l = record {
  walk : IsWalk (list_at l.watches.lists l.list) l.before l.at;
  known : IfSome l.at (λ watcher. watcher < length l.watches.clauses);
  count : length l.watches.lists ≡ length l.fn.watches.lists;
}

abbrev pub decreases-loop-at : goal.decreases-loop-at
decreases-loop-at l = length (rest_from (list_at l.watches.lists l.list) l.at)
