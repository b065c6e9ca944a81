use Rattle.std.proofs.Common.{◌≡◌, ◌++◌, take}
use Rattle.std.specs.List.{flat_map}
use Rattle.reg_rows.specs.Faults.{without_flags}
use Rattle.reg_rows.proofs.unknowns.put_without_flags.Given as goal

abbrev pub invariant-loop-declaration : goal.invariant-loop-declaration
invariant-loop-declaration l = l.faults.items ≡ l.initial.faults.items ++ flat_map (without_flags l.tables) (take l.declaration-index l.declarations)
