use Rattle.std.proofs.Common.{◌≡◌, ◌++◌, take}
use Rattle.std.specs.List.{flat_map}
use Rattle.reg_rows.specs.Faults.{unknown_alias}
use Rattle.reg_rows.proofs.unknowns.put_unknown_aliases.Given as goal

abbrev pub invariant-loop-row : goal.invariant-loop-row
invariant-loop-row l = l.faults.items ≡ l.initial.faults.items ++ flat_map (unknown_alias l.tables) (take l.row-index l.enumerants)
