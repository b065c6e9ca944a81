use Rattle.lift_check.proofs.JudgedLemmas.{never_both, one_count, one_place}
use Rattle.lift_check.proofs.laws.one_verdict.Goals as goal

pub returns-clause-same : goal.returns-clause-same
returns-clause-same c = λ always r lines. one_count always r lines c.one_closure.ensures

pub returns-clause-apart : goal.returns-clause-apart
returns-clause-apart c = λ always r lines. never_both always r lines c.one_closure.ensures

pub returns-clause-first : goal.returns-clause-first
returns-clause-first c = λ always r lines. one_place always r lines c.one_closure.ensures
