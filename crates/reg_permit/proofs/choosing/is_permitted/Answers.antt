use Rattle.reg_permit.specs.Permitted.{BreaksRule, IsPermitted}
use Rattle.reg_permit.proofs.RuleLemmas.{found-place}
use Rattle.reg_permit.proofs.choosing.is_permitted.Goals as goal

pub returns-clause-no : goal.returns-clause-no
returns-clause-no c =
    found-place c.first_broken.result c.is_none.result (IsPermitted c.args.r.now c.args.c.now.chosen.items) (BreaksRule c.args.r.now c.args.c.now.chosen.items)
    (rw (← c.as_slice.ensures.value) c.first_broken.ensures) c.is_none.ensures
