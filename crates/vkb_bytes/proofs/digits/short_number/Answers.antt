use Rattle.std.proofs.Common.{sym, ◌∙◌, arith}
use Rattle.vkb_bytes.proofs.NumberLemmas.{short_is}
use Rattle.vkb_bytes.proofs.digits.short_number.Goals as goal

pub overflow_cast-result : goal.overflow_cast-result
overflow_cast-result c =
    let is = short_is c.args.text.now c.in-Some.number c.if-text-gt9.false (sym c.numeral.ensures ∙ c.in-Some.is) in
    omega (arith, is.0)

pub returns-in-Some-clause-value : goal.returns-in-Some-clause-value
returns-in-Some-clause-value c = sym (short_is c.args.text.now c.in-Some.number c.if-text-gt9.false (sym c.numeral.ensures ∙ c.in-Some.is)).1

pub returns-in-Some-clause-small : goal.returns-in-Some-clause-small
returns-in-Some-clause-small c = (short_is c.args.text.now c.in-Some.number c.if-text-gt9.false (sym c.numeral.ensures ∙ c.in-Some.is)).0
