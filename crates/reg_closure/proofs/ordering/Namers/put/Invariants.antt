use Rattle.std.proofs.Common.{take}
use Rattle.reg_closure.specs.Waiting.{Puts}
use Rattle.reg_closure.proofs.ordering.Namers.put.Given as goal

abbrev pub invariant-loop-id : goal.invariant-loop-id
invariant-loop-id l = Puts l.namer (take l.id-index l.names) l.fn.self l.self
