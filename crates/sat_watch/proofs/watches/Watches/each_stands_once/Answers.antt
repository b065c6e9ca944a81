use Rattle.sat_watch.proofs.ViewLemmas.{stands-once, stands-ahead}
use Rattle.sat_watch.proofs.watches.Watches.each_stands_once.Goals as goal

pub returns-clause-once : goal.returns-clause-once
returns-clause-once c = rw (← c.self.view_is) (stands-once c.self.inside.links.items _ c.self.invariant.counted)

pub returns-clause-ahead : goal.returns-clause-ahead
returns-clause-ahead c list watcher passed rest at =
    rw (← c.self.view_is) (stands-ahead _ _ list passed watcher rest c.self.invariant.counted (rw (← c.self.view_is) at at))
