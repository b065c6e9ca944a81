use Rattle.std.proofs.Common.{◌≡◌, ◌++◌, take}
use Rattle.std.specs.List.{flat_map}
use Rattle.reg_rows.specs.Faults.{grouped_twice}
use Rattle.reg_rows.proofs.duplicates.put_grouped_twice.Given as goal

abbrev pub invariant-loop-group : goal.invariant-loop-group
invariant-loop-group l = l.faults.items ≡ l.initial.faults.items ++ flat_map (grouped_twice l.tables) (take l.group-index l.groups)
