use Rattle.std.proofs.Common.{false, length, replicate}
use Rattle.std.proofs.lemmas.List.{length-replicate}
use Rattle.doc_build.specs.Choices.{free_names}
use Rattle.doc_build.proofs.OptionsLemmas.{none_chosen}
use Rattle.doc_build.proofs.laws.permitted_choices.Goals as goal

pub returns-clause-every : goal.returns-clause-every
returns-clause-every c = λ always lines choice whole. (whole, c.bare_is_free.ensures (free_names always lines) choice)

pub returns-clause-permitted : goal.returns-clause-permitted
returns-clause-permitted c = λ always lines.
    let options = free_names always lines in
    (length-replicate (length options) false, c.bare_is_free.ensures options (replicate (length options) false))

pub returns-clause-nothing : goal.returns-clause-nothing
returns-clause-nothing c = none_chosen
