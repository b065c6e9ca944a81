use Rattle.std.proofs.Common.{◌∙◌, ap}
use Rattle.std.specs.List.{list_all}
use Rattle.vkb_formula.specs.Formulas.{value_of}
use Rattle.vkb_formula.proofs.FormulaLemmas.{value-All}
use Rattle.vkb_formula.proofs.formula.all.Goals as goal

pub returns-clause-value : goal.returns-clause-value
returns-clause-value c = λ set. value-All set c.from_vec.result ∙ ap (list_all (value_of set)) c.from_vec.ensures
