use Rattle.std.proofs.Common.{arith}
use Rattle.lift_survey.proofs.IdLemmas.{unfilled}
use Rattle.lift_survey.proofs.ids.may_name_page.Goals as goal

pub returns-in-None : goal.returns-in-None
returns-in-None c same page = unfilled c.args.written.now (λ k below. c.in-None.ensures k (omega arith) below) page
