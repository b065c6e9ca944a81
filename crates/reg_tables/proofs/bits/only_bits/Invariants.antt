use Rattle.std.proofs.Common.{filter, map}
use Rattle.reg_tables.specs.Bits.{atom_of, is_bit}
use Rattle.reg_tables.specs.Found.{ArePut}
use Rattle.reg_tables.proofs.bits.only_bits.Given as goal

abbrev pub invariant-loop-bit : goal.invariant-loop-bit
invariant-loop-bit l = ArePut (filter (λ atom. is_bit l.tables atom.1) (map atom_of l.yielded)) l.seen l.bits.items
