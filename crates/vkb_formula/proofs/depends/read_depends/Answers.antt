use Rattle.std.proofs.Common.{◌≤◌, ◌∙◌, ap, sym, subst, length}
use Rattle.vkb_formula.specs.Formulas.{value_of, reach_of}
use Rattle.vkb_formula.specs.Expressions.{IsSized, words_in}
use Rattle.vkb_formula.proofs.BuildLemmas.{spelled-built}
use Rattle.vkb_formula.proofs.MeaningLemmas.{expression-value, expression-reach, expression-sized}
use Rattle.vkb_formula.proofs.depends.read_depends.Goals as goal

pub returns-clause-read : goal.returns-clause-read
returns-clause-read c =
    let s = c.in_ok-check.ensures.spelled in
    (s.0, s.1, c.in_ok-build.ensures ∙ spelled-built c.args.options.now s.0 c.args.text.now s.1)

pub returns-clause-only : goal.returns-clause-only
returns-clause-only c = λ e s. c.in_ok-build.ensures ∙ spelled-built c.args.options.now e c.args.text.now s

pub returns-clause-value : goal.returns-clause-value
returns-clause-value c = λ e s set.
    ap (value_of set) (c.in_ok-build.ensures ∙ spelled-built c.args.options.now e c.args.text.now s) ∙ expression-value c.args.options.now e set

pub returns-clause-reach : goal.returns-clause-reach
returns-clause-reach c =
    let s = c.in_ok-check.ensures.spelled in
    subst (λ f. reach_of f ≤ length c.args.options.now) (sym (c.in_ok-build.ensures ∙ spelled-built c.args.options.now s.0 c.args.text.now s.1))
    (expression-reach c.args.options.now s.0)

pub returns-clause-sizes : goal.returns-clause-sizes
returns-clause-sizes c = λ e s.
    subst (λ f. IsSized f (words_in e)) (sym (c.in_ok-build.ensures ∙ spelled-built c.args.options.now e c.args.text.now s)) (expression-sized c.args.options.now e)
