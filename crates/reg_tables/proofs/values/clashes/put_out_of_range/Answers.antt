use Rattle.reg_tables.specs.Wrong.{out_of_range}
use Rattle.reg_tables.proofs.ValueLemmas.{joined-more}
use Rattle.reg_tables.proofs.values.clashes.put_out_of_range.Goals as goal

pub loop-place-preserved : goal.loop-place-preserved
loop-place-preserved c =
    joined-more (out_of_range c.args.tables.now) c.args.rows.now c.loop-place.place c.index-rows-place.result _ _ _
    c.loop-place-test.true c.index-rows-place.is c.loop-place.invariant c.in_ok-put_if_out_of_range.ensures
