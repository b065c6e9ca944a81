use Rattle.reg_tables.specs.Values.{number_of}
use Rattle.reg_tables.proofs.ValueLemmas.{mapped-more}
use Rattle.reg_tables.proofs.values.numbers.Goals as goal

pub loop-row-preserved : goal.loop-row-preserved
loop-row-preserved c =
    mapped-more (number_of c.args.tables.now) c.args.rows.now c.loop-row.row-index c.row-item.result _ _ _
    c.loop-row-test.true c.row-item.is c.number_of.ensures c.loop-row.invariant c.in_ok-push.ensures.items
