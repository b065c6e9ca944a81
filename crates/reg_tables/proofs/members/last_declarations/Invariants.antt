use Rattle.std.proofs.Common.{◌≡◌, map, take}
use Rattle.reg_tables.specs.Found.{aliased_at}
use Rattle.reg_tables.proofs.members.last_declarations.Given as goal

abbrev pub invariant-loop-declaration : goal.invariant-loop-declaration
invariant-loop-declaration l = l.next.items ≡ map (aliased_at l.tables) (take l.declaration-index l.declaration-items)
