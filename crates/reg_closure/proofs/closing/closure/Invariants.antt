use Rattle.std.proofs.Common.{◌-◌, length}
use Rattle.reg_closure.specs.Marking.{IsClosing}
use Rattle.reg_closure.proofs.closing.closure.Given as goal

abbrev pub invariant-loop-name : goal.invariant-loop-name
invariant-loop-name l = IsClosing l.r l.c.chosen.items l.marking l.place

abbrev pub decreases-loop-name : goal.decreases-loop-name
decreases-loop-name l = length l.marking.marked - l.place
