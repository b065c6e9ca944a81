use Rattle.std.proofs.Common.{length, take}
use Rattle.reg_closure.specs.Marking.{Tells, is_listed}
use Rattle.reg_closure.proofs.closing.listed.Given as goal

abbrev pub invariant-loop-block : goal.invariant-loop-block
invariant-loop-block l = Tells (length l.r.names) (is_listed l.adds (take l.block-index l.block-items) l.chosen) l.set
