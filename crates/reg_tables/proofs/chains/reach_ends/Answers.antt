use Rattle.std.proofs.Common.{length}
use Rattle.reg_tables.proofs.ReachingLemmas.{ends-more, is-none, is-not-none, last-end}
use Rattle.reg_tables.proofs.chains.reach_ends.Goals as goal
use Rattle.reg_tables.proofs.chains.reach_ends.Goals.{then-is_none+in_ok-reach, else-is_none}

pub loop-place-preserved : goal.loop-place-preserved
loop-place-preserved c =
    let next = c.args.next.now in
    let place = c.loop-place.place in
    let old = c.loop-place.invariant in
    elim c.if-is_none.branch [
      | then-is_none+in_ok-reach w ↦
          let nowhere = is-none _ _ c.is_none.ensures w.if-is_none.true in
          let made = w.in_ok-reach.ensures in
          rw (w.lasts-is, w.order-is)
          (record {
            reached = made.reached next old.reached (last-end (length c.loop-place.order.items) next place nowhere);
            ends = ends-more next _ _ place made.grown.kept old.ends (λ _. made.here);
          })
      | else-is_none w ↦
          rw (w.lasts-is, w.order-is)
          (record {
            reached = old.reached;
            ends = ends-more next _ _ place (λ p last told. told) old.ends
                (λ nowhere. absurd (is-not-none _ _ c.is_none.ensures w.if-is_none.false nowhere));
          })
    ]
