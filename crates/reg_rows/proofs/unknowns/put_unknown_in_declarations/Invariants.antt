use Rattle.std.proofs.Common.{◌≡◌, ◌++◌, take}
use Rattle.std.specs.List.{flat_map}
use Rattle.reg_rows.specs.Faults.{unknown}
use Rattle.reg_rows.proofs.unknowns.put_unknown_in_declarations.Given as goal

abbrev pub invariant-loop-declaration : goal.invariant-loop-declaration
invariant-loop-declaration l = l.faults.items ≡ l.initial.faults.items ++ flat_map (λ d. flat_map (unknown l.tables) d.mentions) (take l.declaration-index l.declarations)
