use Rattle.reg_permit.proofs.LawLemmas.{bare-free}
use Rattle.reg_permit.proofs.laws.bare_is_free.Goals as goal

pub returns : goal.returns
returns c = bare-free
