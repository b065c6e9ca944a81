use Rattle.std.proofs.Common.{◌≡◌, ◌<◌, ◌++◌, List, ℕ, length, IfSome}
use Rattle.sat_watch.specs.Watching.{BeginsWith, list_at, rest_from}
use Rattle.sat_watch.proofs.tests.walked.Given as goal

abbrev pub invariant-loop-at : goal.invariant-loop-at
invariant-loop-at l = record {
  split : (rest : List ℕ) × (list_at l.watches.lists l.list ≡ l.found.items ++ rest) × BeginsWith rest l.at;
  known : IfSome l.at (λ watcher. watcher < length l.watches.clauses);
}

abbrev pub decreases-loop-at : goal.decreases-loop-at
decreases-loop-at l = length (rest_from (list_at l.watches.lists l.list) l.at)
