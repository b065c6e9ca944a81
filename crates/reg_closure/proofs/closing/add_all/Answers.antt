use Rattle.std.proofs.Common.{◌∙◌, true, length, get_or, slice_get, ap, length-set}
use Rattle.reg_closure.proofs.ClosingLemmas.{adds-one}
use Rattle.reg_closure.proofs.closing.add_all.Goals as goal

pub loop-id-preserved : goal.loop-id-preserved
loop-id-preserved c = record {
  count = ap length c.add.ensures ∙ length-set c.loop-id.set (get_or c.args.ids.now c.loop-id.id-index (record { 0 = 0 })).0 true ∙ c.loop-id.invariant.count;
  each = λ place was e.
      ap (λ set. slice_get set place) c.add.ensures
      ∙ adds-one c.args.set.now c.loop-id.set c.args.ids.now c.loop-id.id-index (record { 0 = 0 }) c.loop-id-test.true c.loop-id.invariant.each place was e;
}
