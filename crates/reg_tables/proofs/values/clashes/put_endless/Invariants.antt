use Rattle.std.proofs.Common.{◌≡◌, ◌++◌, take}
use Rattle.std.specs.List.{flat_map}
use Rattle.reg_tables.specs.Wrong.{endless}
use Rattle.reg_tables.proofs.values.clashes.put_endless.Given as goal

abbrev pub invariant-loop-place : goal.invariant-loop-place
invariant-loop-place l = l.faults.items ≡ l.initial.faults.items ++ flat_map (endless l.tables) (take l.place l.rows)
