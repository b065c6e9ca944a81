use Rattle.std.proofs.Common.{◌∙◌}
use Rattle.vkb_formula.proofs.BuildLemmas.{spelled-places}
use Rattle.vkb_formula.proofs.MeaningLemmas.{spelled-within}
use Rattle.vkb_formula.proofs.WordLemmas.{spelled-names, spelled-count}
use Rattle.vkb_formula.proofs.depends.words_of.Goals as goal

pub returns-clause-read : goal.returns-clause-read
returns-clause-read c =
    let s = c.in_ok-check.ensures.spelled in
    (s.0, s.1, c.in_ok-name_places.ensures ∙ spelled-places s.0 c.args.text.now s.1)

pub returns-clause-only : goal.returns-clause-only
returns-clause-only c = λ e s. c.in_ok-name_places.ensures ∙ spelled-places e c.args.text.now s

pub returns-clause-within : goal.returns-clause-within
returns-clause-within c =
    let s = c.in_ok-check.ensures.spelled in
    spelled-within s.0 c.args.text.now _ s.1 (c.in_ok-name_places.ensures ∙ spelled-places s.0 c.args.text.now s.1)

pub returns-clause-names : goal.returns-clause-names
returns-clause-names c = λ e s. spelled-names e c.args.text.now _ s (c.in_ok-name_places.ensures ∙ spelled-places e c.args.text.now s)

pub returns-clause-count : goal.returns-clause-count
returns-clause-count c = λ e s. spelled-count e c.args.text.now _ s (c.in_ok-name_places.ensures ∙ spelled-places e c.args.text.now s)
