use Rattle.reg_registry.proofs.WalkLoopLemmas.{number-below, number-each}
use Rattle.reg_registry.proofs.circles.walk.numbers_below.Goals as goal

pub loop-number-preserved : goal.loop-number-preserved
loop-number-preserved c = record {
  below = number-below c.loop-number.numbers.items _ _ c.in_ok-push.ensures.items c.loop-number.invariant.below;
  each = number-each c.loop-number.numbers.items _ _ c.in_ok-push.ensures.items c.loop-number.invariant.each;
}
