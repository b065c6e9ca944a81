use Rattle.std.proofs.Common.{◌≡◌, map, take}
use Rattle.reg_tables.specs.Values.{number_of}
use Rattle.reg_tables.proofs.values.numbers.Given as goal

abbrev pub invariant-loop-row : goal.invariant-loop-row
invariant-loop-row l = l.numbers.items ≡ map (number_of l.tables) (take l.row-index l.rows)
