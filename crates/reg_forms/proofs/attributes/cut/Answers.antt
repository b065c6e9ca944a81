use Rattle.std.proofs.Common.{◌≡◌, ℕ, suc, ◌∷◌, ◌+◌, drop, take, sym, ap, ◌∙◌, arith}
use Rattle.std.proofs.lemmas.List.{take_rest}
use Rattle.reg_forms.specs.Attributes.{parts_of}
use Rattle.reg_forms.proofs.CommaLemmas.{parts-cut, parts-whole}
use Rattle.reg_forms.proofs.FrontLemmas.{front-cut, front-whole}
use Rattle.reg_forms.proofs.attributes.cut.Goals as goal

one_more : (n : ℕ) → suc n ≡ n + 1
one_more n = omega arith

pub returns-in-Some-clause-front : goal.returns-in-Some-clause-front
returns-in-Some-clause-front c =
    let found = c.in-Some.ensures in
    front-cut 44 c.args.text.now c.in-Some.at found.0.high (λ k few. found.0.before k (omega arith) few) found.1

pub returns-in-Some-clause-parts : goal.returns-in-Some-clause-parts
returns-in-Some-clause-parts c =
    let found = c.in-Some.ensures in
    parts-cut c.args.text.now c.in-Some.at found.0.high (λ k few. found.0.before k (omega arith) few) found.1
    ∙ ap (λ rest. take c.in-Some.at c.args.text.now ∷ parts_of rest)
    (ap (λ n. drop n c.args.text.now) (one_more c.in-Some.at) ∙ sym (take_rest c.args.text.now (c.in-Some.at + 1)))

pub returns-in-None-clause-front : goal.returns-in-None-clause-front
returns-in-None-clause-front c = front-whole 44 c.args.text.now (λ k few. c.in-None.ensures k (omega arith) few)

pub returns-in-None-clause-parts : goal.returns-in-None-clause-parts
returns-in-None-clause-parts c = parts-whole c.args.text.now (λ k few. c.in-None.ensures k (omega arith) few)
