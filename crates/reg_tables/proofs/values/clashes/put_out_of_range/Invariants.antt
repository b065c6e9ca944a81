use Rattle.std.proofs.Common.{◌≡◌, ◌++◌, take}
use Rattle.std.specs.List.{flat_map}
use Rattle.reg_tables.specs.Wrong.{out_of_range}
use Rattle.reg_tables.proofs.values.clashes.put_out_of_range.Given as goal

abbrev pub invariant-loop-place : goal.invariant-loop-place
invariant-loop-place l = l.faults.items ≡ l.initial.faults.items ++ flat_map (out_of_range l.tables) (take l.place l.rows)
