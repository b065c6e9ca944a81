use Rattle.reg_registry.proofs.BareLemmas.{put-next}
use Rattle.reg_registry.proofs.bare.option_table.Goals as goal

pub loop-option-preserved : goal.loop-option-preserved
loop-option-preserved c =
    put-next c.args.options.now _ _ c.loop-option.option-index _ _ c.requires.differ c.loop-option-test.true c.option-item.is c.loop-option.invariant
    c.as_slice.ensures c.in_ok-put_name.ensures
