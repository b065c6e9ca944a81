use Rattle.reg_permit.proofs.DecideLemmas.{each-permitted-or-not}
use Rattle.reg_permit.proofs.laws.choices_are_permitted_or_not.Goals as goal

pub returns : goal.returns
returns c = each-permitted-or-not c.names_are_declared_or_not.ensures
