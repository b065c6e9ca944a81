use Rattle.std.proofs.Common.{◌≡◌, ◌++◌, take}
use Rattle.std.specs.List.{flat_map}
use Rattle.reg_rows.specs.Faults.{of_two_types}
use Rattle.reg_rows.proofs.duplicates.put_of_two_types.Given as goal

abbrev pub invariant-loop-row : goal.invariant-loop-row
invariant-loop-row l = l.faults.items ≡ l.initial.faults.items ++ flat_map (of_two_types l.tables) (take l.row-index l.enumerants)
