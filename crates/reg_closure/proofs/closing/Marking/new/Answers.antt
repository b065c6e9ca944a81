use Rattle.reg_closure.proofs.MarkLemmas.{marking-none, none-marked}
use Rattle.reg_closure.proofs.closing.Marking.new.Goals as goal

pub returns-clause-marking : goal.returns-clause-marking
returns-clause-marking c = marking-none (record { marked = c.in_ok-new.field-0; names = c.new-2.result.items }) c.args.count c.in_ok-new.ensures c.new-2.ensures.items

pub returns-clause-none : goal.returns-clause-none
returns-clause-none c = none-marked c.in_ok-new.field-0 c.args.count c.in_ok-new.ensures
