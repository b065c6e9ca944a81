use Rattle.reg_permit.proofs.DecideLemmas.{each-permitted-or-first}
use Rattle.reg_permit.proofs.laws.choices_are_permitted_or_break_one_first.Goals as goal

pub returns : goal.returns
returns c = each-permitted-or-first c.names_are_declared_or_not.ensures
