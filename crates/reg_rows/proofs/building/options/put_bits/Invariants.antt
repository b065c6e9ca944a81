use Rattle.std.proofs.Common.{◌≡◌, ◌++◌, map, take}
use Rattle.reg_tables.specs.Bits.{atom_of}
use Rattle.reg_rows.specs.Rows.{bit_row}
use Rattle.reg_rows.proofs.building.options.put_bits.Given as goal

abbrev pub invariant-loop-bit : goal.invariant-loop-bit
invariant-loop-bit l = l.rows.items ≡ l.initial.rows.items ++ map (bit_row l.names) (map atom_of (take l.bit-index l.bits))
