use Rattle.std.proofs.Common.{◌≡◌, ◌++◌, take}
use Rattle.std.specs.List.{flat_map}
use Rattle.reg_tables.specs.Wrong.{constant_clash}
use Rattle.reg_tables.proofs.values.clashes.put_constant_clashes.Given as goal

abbrev pub invariant-loop-declaration : goal.invariant-loop-declaration
invariant-loop-declaration l = l.faults.items ≡ l.initial.faults.items ++ flat_map (constant_clash l.tables) (take l.declaration-index l.declarations)
