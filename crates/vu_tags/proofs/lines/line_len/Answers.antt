use Rattle.std.proofs.Common.{arith}
use Rattle.vu_tags.proofs.LineLemmas.{lines_of-fed, lines_of-last, is_false}
use Rattle.vu_tags.proofs.lines.line_len.Goals as goal

pub returns-in-Some-clause-first : goal.returns-in-Some-clause-first
returns-in-Some-clause-first c =
    let first = c.in-Some.ensures in
    lines_of-fed c.args.text.now c.in-Some.end first.0.high first.1 (λ k below. is_false _ (first.0.before k (omega arith) below))

pub returns-in-None-clause-first : goal.returns-in-None-clause-first
returns-in-None-clause-first c =
    lines_of-last c.args.text.now c.requires (λ k below. is_false _ (c.in-None.ensures k (omega arith) below))
