use Rattle.reg_tables.proofs.CountLemmas.{IsStep}
use Rattle.reg_tables.proofs.PutLemmas.{put-none, put-one}
use Rattle.reg_tables.proofs.bits.put_new.Goals as goal

pub returns-in_ok-push : goal.returns-in_ok-push
returns-in_ok-push c = λ atoms h.
    let e = c.in_ok-at.ensures in
    let step : IsStep c.args.seen.now c.intern.new.self c.as_slice.result.now c.in_ok-at.at c.len-count.result = record { count_is = c.len-count.ensures.count; table = e.table; within = e.within; held = e.held; different = e.different } in
    put-one atoms c.args.bit c.as_slice.result.now c.args.seen.now c.intern.new.self c.args.bits.now.items c.push.new.self.items c.in_ok-at.at c.len-count.result c.as_slice.ensures h step c.if-at-count.true c.in_ok-push.ensures.items

pub returns-else-at-count : goal.returns-else-at-count
returns-else-at-count c = λ atoms h.
    let e = c.in_ok-at.ensures in
    let step : IsStep c.args.seen.now c.intern.new.self c.as_slice.result.now c.in_ok-at.at c.len-count.result = record { count_is = c.len-count.ensures.count; table = e.table; within = e.within; held = e.held; different = e.different } in
    put-none atoms c.args.bit c.as_slice.result.now c.args.seen.now c.intern.new.self c.args.bits.now.items c.in_ok-at.at c.len-count.result c.as_slice.ensures h step c.if-at-count.false
