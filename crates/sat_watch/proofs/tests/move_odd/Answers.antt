use Rattle.std.proofs.Common.{◌∙◌}
use Rattle.sat_watch.specs.Watching.{list_at}
use Rattle.sat_watch.proofs.WalkLemmas.{walk-place, walk-next, walk-move, next-shorter, move-shorter}
use Rattle.sat_watch.proofs.tests.move_odd.Goals as goal
use Rattle.sat_watch.proofs.tests.move_odd.Goals.{then-clause-eq1, else-clause-eq1}

pub loop-at-preserved : goal.loop-at-preserved
loop-at-preserved c =
    let list = list_at c.loop-at.watches.lists c.args.list in
    let walk = rw c.in-Some.is at c.loop-at.invariant.walk in
    elim c.if-clause-eq1.branch [
      | then-clause-eq1 w ↦
          rw (w.watches-is, w.before-is) (record {
            walk = walk-move list (list_at w.move_to.new.self.lists c.args.list) c.loop-at.before c.in-Some.watcher c.next-at.result walk
                (c.next-at.ensures.next c.args.list) w.move_to.ensures.from;
            known = rw w.move_to.ensures.clauses c.next-at.ensures.known;
            count = w.move_to.ensures.count ∙ c.loop-at.invariant.count;
          })
      | else-clause-eq1 w ↦ rw (w.watches-is, w.before-is) (record {
        walk = walk-next list c.loop-at.before c.in-Some.watcher c.next-at.result walk (c.next-at.ensures.next c.args.list);
        known = c.next-at.ensures.known;
        count = c.loop-at.invariant.count;
      })
    ]

pub loop-at-smaller : goal.loop-at-smaller
loop-at-smaller c =
    let list = list_at c.loop-at.watches.lists c.args.list in
    let walk = rw c.in-Some.is at c.loop-at.invariant.walk in
    let place = walk-place list c.loop-at.before c.in-Some.watcher walk in
    let ahead = c.each_stands_once-in-Some.ensures.ahead c.args.list in
    rw c.in-Some.is
    (elim c.if-clause-eq1.branch [
      | then-clause-eq1 w ↦ rw w.watches-is
          (move-shorter list (list_at w.move_to.new.self.lists c.args.list) place.passed c.in-Some.watcher place.rest c.next-at.result place.split
          (c.next-at.ensures.next c.args.list) (c.each_stands_once.ensures.ahead c.args.list)
          (w.move_to.ensures.from place.passed place.rest place.split) (rw w.watches-is at ahead))
      | else-clause-eq1 w ↦ rw w.watches-is
          (next-shorter list place.passed c.in-Some.watcher place.rest c.next-at.result place.split
          (c.next-at.ensures.next c.args.list) (c.each_stands_once.ensures.ahead c.args.list))
    ])
