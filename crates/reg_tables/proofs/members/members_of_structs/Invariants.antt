use Rattle.std.proofs.Common.{◌≡◌, map, take}
use Rattle.reg_tables.specs.Found.{members_table}
use Rattle.reg_tables.proofs.members.members_of_structs.Given as goal

abbrev pub invariant-loop-declaration : goal.invariant-loop-declaration
invariant-loop-declaration l = l.members.items ≡ map members_table (take l.declaration-index l.declaration-items)
