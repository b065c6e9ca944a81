use Rattle.reg_values.proofs.SpellingLemmas.{literal_from, from_literal, one_value}
use Rattle.reg_values.proofs.literals_follow_the_rule.Goals as goal

pub returns-clause-spelled : goal.returns-clause-spelled
returns-clause-spelled c =
    let decimal = c.numerals_follow_the_rule.ensures.decimal in
    let hexadecimal = c.numerals_follow_the_rule.ensures.hexadecimal in
    λ value. (literal_from decimal hexadecimal c.args.text.now value, from_literal decimal hexadecimal c.args.text.now value)

pub returns-clause-unique : goal.returns-clause-unique
returns-clause-unique c = one_value c.numerals_follow_the_rule.ensures.decimal c.numerals_follow_the_rule.ensures.hexadecimal c.args.text.now
