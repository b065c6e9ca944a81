use Rattle.reg_forms.proofs.LawLemmas.{declarations-rise}
use Rattle.reg_forms.proofs.laws.declarations_rise.Goals as goal

pub returns : goal.returns
returns c = declarations-rise c.places_rise.ensures
