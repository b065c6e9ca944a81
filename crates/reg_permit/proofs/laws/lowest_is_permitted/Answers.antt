use Rattle.reg_permit.proofs.LawLemmas.{lowest-permitted}
use Rattle.reg_permit.proofs.laws.lowest_is_permitted.Goals as goal

pub returns : goal.returns
returns c = lowest-permitted
