use Rattle.std.proofs.Common.{arith, rules}
use Rattle.vkb_formula.proofs.FormulaLemmas.{value-All, value-Any, reach-item}
use Rattle.vkb_formula.specs.declared.formula.Formula.{the_lemmas}
use Rattle.vkb_formula.proofs.formula.+value.Goals as goal

pub Formula::value-returns-in-All : goal.Formula::value-returns-in-All
Formula::value-returns-in-All t c = cc (value-All c.args.set.now c.as_slice.result.now)

pub Formula::value-returns-in-Any : goal.Formula::value-returns-in-Any
Formula::value-returns-in-Any t c = cc (value-Any c.args.set.now c.as_slice-in-Any.result.now)

pub all_hold-value-requires : goal.all_hold-value-requires
all_hold-value-requires t c =
    (search (rules, the_lemmas), reach-item c.args.parts.now c.loop-part.part-index c.part-item.result _ c.part-item.is (omega arith) c.requires)

pub any_holds-value-requires : goal.any_holds-value-requires
any_holds-value-requires t c =
    (search (rules, the_lemmas), reach-item c.args.parts.now c.loop-part.part-index c.part-item.result _ c.part-item.is (omega arith) c.requires)
