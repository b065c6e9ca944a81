use Rattle.std.proofs.Common.{◌∙◌, ap}
use Rattle.std.specs.List.{list_any}
use Rattle.vkb_formula.specs.Formulas.{value_of}
use Rattle.vkb_formula.proofs.FormulaLemmas.{value-Any}
use Rattle.vkb_formula.proofs.formula.any.Goals as goal

pub returns-clause-value : goal.returns-clause-value
returns-clause-value c = λ set. value-Any set c.from_vec.result ∙ ap (list_any (value_of set)) c.from_vec.ensures
