use Rattle.reg_closure.proofs.DecideLemmas.{each-inside-or-not}
use Rattle.reg_closure.proofs.laws.names_are_declared_or_not.Goals as goal

pub returns : goal.returns
returns c = each-inside-or-not c.names_lead_or_not.ensures
