use Rattle.std.proofs.Common.{◌≡◌, ◌<◌, ◌≤◌, length, arith}
use Rattle.std.proofs.lemmas.List.{get_or_read}
use Rattle.reg_tables.proofs.EndLemmas.{AreLedBack, all-last, back-more, back-past, ends-kept, lasts-within}
use Rattle.reg_tables.proofs.chains.last_places.Goals as goal
use Rattle.reg_tables.proofs.chains.last_places.Goals.{then-at-len+in_ok-reach_leaders, else-at-len}

pub loop-at-preserved : goal.loop-at-preserved
loop-at-preserved c =
    let next = c.args.next.now in
    let at = c.loop-at.at in
    let old = c.loop-at.invariant in
    let same = c.in_ok-leaders.ensures.next in
    elim c.if-at-len.branch [
      | then-at-len+in_ok-reach_leaders w ↦
          let made = w.in_ok-reach_leaders.ensures in
          let inside : at < length c.loop-at.order.items = omega (arith, w.if-at-len.true, c.len.ensures) in
          let place_is = get_or_read c.loop-at.order.items at _ inside w.index.ensures 0 in
          rw (w.lasts-is, w.order-is)
          (record {
            reached = rw same at made.reached;
            ends = ends-kept next c.loop-at.lasts.items w.reach_leaders.new.lasts.items (length next) made.grown.kept old.ends;
            back = back-more next c.loop-at.lasts.items w.reach_leaders.new.lasts.items c.loop-at.order.items w.reach_leaders.new.order.items at _
                inside place_is old.back made.grown (rw same at made.back);
          })
      | else-at-len w ↦
          let past : length c.loop-at.order.items ≤ at = omega (arith, w.if-at-len.false, c.len.ensures) in
          rw (w.lasts-is, w.order-is)
          (record {
            reached = old.reached;
            ends = old.ends;
            back = back-past next c.loop-at.lasts.items c.loop-at.order.items at past old.back;
          })
    ]

pub returns-clause-lasts : goal.returns-clause-lasts
returns-clause-lasts c =
    let next = c.args.next.now in
    let old = c.loop-at.invariant in
    let all : c.loop-at.at ≡ length next = omega (arith, c.loop-at-test.false, c.loop-at.auto.at-end) in
    let back : AreLedBack next c.loop-at.lasts.items c.loop-at.order.items (length next) = rw all at old.back in
    all-last next c.loop-at.lasts.items c.loop-at.order.items c.requires old.reached old.ends back

pub returns-clause-within : goal.returns-clause-within
returns-clause-within c = lasts-within c.args.next.now c.loop-at.lasts.items c.loop-at.order.items c.requires c.loop-at.invariant.reached
