use Rattle.vkb_bytes.proofs.NumeralLemmas.{decimal_from, from_decimal, hexadecimal_from, from_hexadecimal}
use Rattle.vkb_bytes.proofs.digits.numerals_follow_the_rule.Goals as goal

pub returns-clause-decimal : goal.returns-clause-decimal
returns-clause-decimal c = λ text number. (decimal_from text number, from_decimal text number)

pub returns-clause-hexadecimal : goal.returns-clause-hexadecimal
returns-clause-hexadecimal c = λ text number. (hexadecimal_from text number, from_hexadecimal text number)
