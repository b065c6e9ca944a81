use Rattle.sat_watch.specs.Watching.{list_at}
use Rattle.sat_core.specs.Searching.{AreWatched}
use Rattle.sat_core.specs.Walking.{Grows, IsWalking, Waits, left_from}
use Rattle.sat_core.proofs.search.Search.walk.Given as goal

-- the watchers so far are passed
abbrev pub invariant-loop-at : goal.invariant-loop-at
invariant-loop-at l = record {
  grows : Grows l.fn.self l.self;
  waits : Waits l.fn.self l.self;
  watched : AreWatched l.self;
  walking : IsWalking l.self l.lit l.before l.at;
}

abbrev pub decreases-loop-at : goal.decreases-loop-at
decreases-loop-at l = left_from (list_at l.self.watches.lists l.lit.0) l.at
