use Rattle.std.proofs.Common.{◌∙◌, sym, arith}
use Rattle.vkb_formula.proofs.FrontLemmas.{stopped-at, read-more-at, read-all, whole-spelled, unended}
use Rattle.vkb_formula.proofs.mark.stop_of.Goals as goal

pub returns-in-None-clause-stop : goal.returns-in-None-clause-stop
returns-in-None-clause-stop c = stopped-at c.args.text.now c.loop-at.at c.loop-at.mark (omega arith) c.loop-at.invariant (sym c.in-None.ensures)

pub loop-at-preserved : goal.loop-at-preserved
loop-at-preserved c = read-more-at c.args.text.now c.loop-at.at c.loop-at.mark c.in-Some.next (omega arith) c.loop-at.invariant (sym c.in-Some.ensures)

pub returns-then-is_whole-clause-spelled : goal.returns-then-is_whole-clause-spelled
returns-then-is_whole-clause-spelled c =
    whole-spelled c.args.text.now c.loop-at.mark (read-all c.args.text.now c.loop-at.at c.loop-at.mark (omega arith) c.loop-at.invariant) (sym c.is_whole.ensures ∙ c.if-is_whole.true)

pub returns-else-is_whole-clause-stop : goal.returns-else-is_whole-clause-stop
returns-else-is_whole-clause-stop c =
    unended c.args.text.now c.loop-at.mark (read-all c.args.text.now c.loop-at.at c.loop-at.mark (omega arith) c.loop-at.invariant) (sym c.is_whole.ensures ∙ c.if-is_whole.false)
