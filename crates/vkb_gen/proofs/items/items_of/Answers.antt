use Rattle.std.proofs.Common.{◌∙◌}
use Rattle.vkb_gen.proofs.ItemLemmas.{items_more}
use Rattle.vkb_gen.proofs.items.items_of.Goals as goal

pub loop-number-init : goal.loop-number-init
loop-number-init c = record { made = c.in_ok-items.ensures.items; state = c.from_seed-draws.ensures }

pub loop-number-preserved : goal.loop-number-preserved
loop-number-preserved c =
    let seed = c.args.seed in
    let number = c.loop-number.number in
    let drawn = c.draw_parents-parents.ensures in
    record {
      made = c.in_ok-push.ensures.items ∙ items_more seed number c.draw_parents-parents.result c.loop-number.items.items c.loop-number.auto.number c.loop-number.invariant.made (drawn.parents seed c.loop-number.invariant.state);
      state = drawn.state seed c.loop-number.invariant.state;
    }
