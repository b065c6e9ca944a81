use Rattle.sat_watch.specs.Watching.{list_at}
use Rattle.sat_watch.proofs.WalkLemmas.{walk-next}
use Rattle.sat_watch.proofs.tests.move_nth.Goals as goal
use Rattle.sat_watch.proofs.tests.move_nth.Goals.{in-Some, in_default}

pub loop-preserved : goal.loop-preserved
loop-preserved c =
    elim c.match-at.branch [
      | in-Some w ↦ rw (w.before-is, w.at-is) (record {
        walk = walk-next (list_at c.args.watches.now.lists c.args.list) c.loop.before w.in-Some.watcher w.next-at.result
            (rw w.in-Some.is at c.loop.invariant.walk) (w.next-at.ensures.next c.args.list);
        known = w.next-at.ensures.known;
      })
      | in_default w ↦ rw (w.before-is, w.at-is) c.loop.invariant
    ]
