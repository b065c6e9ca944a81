use Rattle.reg_tables.proofs.ValueLemmas.{value-is}
use Rattle.reg_tables.proofs.values.Values.value_at.Goals as goal

pub returns-in-Some : goal.returns-in-Some
returns-in-Some c f e v at = value-is f _ _ c.args.place c.in-Some.last e _ v at c.in-Some.ensures c.number_at.ensures
