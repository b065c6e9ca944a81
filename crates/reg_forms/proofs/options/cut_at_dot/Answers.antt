use Rattle.std.proofs.Common.{◌+◌, ap, ◌∙◌, drop, length, arith}
use Rattle.std.proofs.lemmas.List.{take_rest}
use Rattle.reg_forms.specs.Options.{before_dot}
use Rattle.reg_forms.proofs.FrontLemmas.{front-cut, front-length, front-whole}
use Rattle.reg_forms.proofs.OptionLemmas.{behind-end}
use Rattle.reg_forms.proofs.options.cut_at_dot.Goals as goal

pub returns-in-Some-clause-before : goal.returns-in-Some-clause-before
returns-in-Some-clause-before c =
    let found = c.in-Some.ensures in
    front-cut 46 c.args.text.now c.in-Some.at found.0.high (λ k few. found.0.before k (omega arith) few) found.1

pub returns-in-Some-clause-behind : goal.returns-in-Some-clause-behind
returns-in-Some-clause-behind c =
    let found = c.in-Some.ensures in
    take_rest c.args.text.now (c.in-Some.at + 1)
    ∙ ap (λ n. drop (n + 1) c.args.text.now) (front-length 46 c.args.text.now c.in-Some.at found.0.high (λ k few. found.0.before k (omega arith) few) found.1)

pub returns-in-None-clause-before : goal.returns-in-None-clause-before
returns-in-None-clause-before c = front-whole 46 c.args.text.now (λ k few. c.in-None.ensures k (omega arith) few)

pub returns-in-None-clause-behind : goal.returns-in-None-clause-behind
returns-in-None-clause-behind c =
    let whole = ap length (front-whole 46 c.args.text.now (λ k few. c.in-None.ensures k (omega arith) few)) in
    behind-end c.args.text.now (length (before_dot c.args.text.now) + 1) (omega (arith, whole))
