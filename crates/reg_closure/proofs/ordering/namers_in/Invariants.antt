use Rattle.reg_closure.specs.Waiting.{AreNamers}
use Rattle.reg_closure.proofs.ordering.namers_in.Given as goal

abbrev pub invariant-loop-name : goal.invariant-loop-name
invariant-loop-name l = AreNamers l.r.rows l.set l.name l.namers
