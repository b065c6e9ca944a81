use Rattle.std.proofs.Common.{◌≡◌, ◌++◌, take}
use Rattle.std.specs.List.{flat_map}
use Rattle.reg_rows.specs.Faults.{declared_twice}
use Rattle.reg_rows.proofs.duplicates.put_declared_twice.Given as goal

abbrev pub invariant-loop-declaration : goal.invariant-loop-declaration
invariant-loop-declaration l = l.faults.items ≡ l.initial.faults.items ++ flat_map (declared_twice l.tables) (take l.declaration-index l.declarations)
