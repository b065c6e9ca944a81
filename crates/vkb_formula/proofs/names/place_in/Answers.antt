use Rattle.std.proofs.Common.{◌∙◌}
use Rattle.vkb_formula.proofs.NameLemmas.{position-names}
use Rattle.vkb_formula.proofs.names.place_in.Goals as goal

pub returns-clause-place : goal.returns-clause-place
returns-clause-place c = c.get_index_of.ensures.index ∙ position-names (λ held. held.items) c.args.name.now c.args.names.now.keys
