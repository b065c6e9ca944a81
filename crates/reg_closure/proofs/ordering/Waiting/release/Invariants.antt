use Rattle.std.proofs.Common.{take}
use Rattle.reg_closure.specs.Waiting.{Releases}
use Rattle.reg_closure.proofs.ordering.Waiting.release.Given as goal

abbrev pub invariant-loop-name : goal.invariant-loop-name
invariant-loop-name l = Releases (take l.name-index l.names) l.fn.self l.self
