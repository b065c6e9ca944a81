use Rattle.std.proofs.Common.{◌≡◌, ◌+◌, drop, length}
use Rattle.reg_tables.specs.Bits.{owner_in}
use Rattle.reg_rows.proofs.building.bit_parts.owner_end.Given as goal

abbrev pub invariant-loop-place : goal.invariant-loop-place
invariant-loop-place l = length (owner_in l.name) ≡ l.place + length (owner_in (drop l.place l.name))
