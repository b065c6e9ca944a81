use Rattle.std.proofs.Common.{◌≡◌, ◌++◌, take}
use Rattle.std.specs.List.{flat_map}
use Rattle.reg_tables.specs.Wrong.{alias_of_itself}
use Rattle.reg_tables.proofs.values.clashes.put_self_aliases.Given as goal

abbrev pub invariant-loop-declaration : goal.invariant-loop-declaration
invariant-loop-declaration l = l.faults.items ≡ l.initial.faults.items ++ flat_map alias_of_itself (take l.declaration-index l.declarations)
