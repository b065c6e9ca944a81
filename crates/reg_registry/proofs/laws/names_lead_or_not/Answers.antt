use Rattle.reg_registry.proofs.LeadLemmas.{each-leads-or-not}
use Rattle.reg_registry.proofs.laws.names_lead_or_not.Goals as goal

pub returns : goal.returns
returns c = each-leads-or-not
