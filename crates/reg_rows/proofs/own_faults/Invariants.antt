use Rattle.std.proofs.Common.{◌≡◌, take}
use Rattle.reg_rows.proofs.own_faults.Given as goal

abbrev pub invariant-loop-fault : goal.invariant-loop-fault
invariant-loop-fault l = l.faults.items ≡ take l.fault-index l.forms.faults
