use Rattle.reg_tables.proofs.CountLemmas.{IsStep, counted-more, counted-past}
use Rattle.reg_tables.proofs.counted.Counted.put.Goals as goal
use Rattle.reg_tables.proofs.counted.Counted.put.Goals.{then-at-count-via-then-at-count, then-at-count-via-else-at-count+then-count-ne-MOST_NAMES}

pub returns-then-at-count : goal.returns-then-at-count
returns-then-at-count c = λ named h.
    let e = c.in_ok-at.ensures in
    let step : IsStep c.args.self.now.names c.intern.new.self c.args.name.now c.in_ok-at.at c.len-count.result = record { count_is = c.len-count.ensures.count; table = e.table; within = e.within; held = e.held; different = e.different } in
    counted-more named c.args.place c.args.name.now c.args.self.now.names c.intern.new.self c.args.self.now.past c.in_ok-at.at c.len-count.result h step
    (λ new full. elim c.then-at-count.branch [
      | then-at-count-via-then-at-count w ↦ w.if-at-count.true new
      | then-at-count-via-else-at-count+then-count-ne-MOST_NAMES w ↦ w.if-count-ne-MOST_NAMES.true full
    ])

pub returns : goal.returns
returns c = λ named h.
    let e = c.in_ok-at.ensures in
    let step : IsStep c.args.self.now.names c.intern.new.self c.args.name.now c.in_ok-at.at c.len-count.result = record { count_is = c.len-count.ensures.count; table = e.table; within = e.within; held = e.held; different = e.different } in
    counted-past named c.args.place c.args.name.now c.in_ok-from_slice.field-0 c.args.self.now.names c.intern.new.self c.args.self.now.past c.in_ok-at.at c.len-count.result
    c.in_ok-from_slice.ensures h step c.if-at-count.false c.if-count-ne-MOST_NAMES.false
