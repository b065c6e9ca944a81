use Rattle.std.proofs.Common.{◌≡◌, ◌++◌, take}
use Rattle.std.specs.List.{flat_map}
use Rattle.reg_rows.specs.Faults.{declared_besides}
use Rattle.reg_rows.proofs.duplicates.put_declared_besides.Given as goal

abbrev pub invariant-loop-row : goal.invariant-loop-row
invariant-loop-row l = l.faults.items ≡ l.initial.faults.items ++ flat_map (declared_besides l.tables) (take l.row-index l.enumerants)
