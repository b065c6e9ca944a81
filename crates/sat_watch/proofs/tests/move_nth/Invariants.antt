use Rattle.std.proofs.Common.{◌<◌, length, IfSome}
use Rattle.sat_watch.specs.Watching.{list_at}
use Rattle.sat_watch.proofs.WalkLemmas.{IsWalk}
use Rattle.sat_watch.proofs.tests.move_nth.Given as goal

abbrev pub invariant-loop : goal.invariant-loop
invariant-loop l = record {
  walk : IsWalk (list_at l.watches.lists l.list) l.before l.at;
  known : IfSome l.at (λ watcher. watcher < length l.watches.clauses);
}
