use Rattle.std.proofs.Common.{◌≡◌, false, take}
use Rattle.reg_tables.specs.Bits.{is_member_name}
use Rattle.reg_tables.proofs.members.is_member_name.Given as goal

abbrev pub invariant-loop-byte : goal.invariant-loop-byte
invariant-loop-byte l = is_member_name (take l.byte-index l.name) ≡ false
