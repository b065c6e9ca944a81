use Rattle.reg_registry.proofs.LeadLemmas.{each-has-a-circle-or-not}
use Rattle.reg_registry.proofs.laws.circles_are_there_or_not.Goals as goal

pub returns : goal.returns
returns c = each-has-a-circle-or-not
