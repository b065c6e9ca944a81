use Rattle.std.proofs.Common.{◌++◌, List, map, take}
use Rattle.reg_tables.specs.Bits.{Atom, atom_of}
use Rattle.reg_tables.specs.Counts.{IsCounted}
use Rattle.reg_tables.proofs.limits.count_bits.Given as goal

abbrev pub invariant-loop-bit : goal.invariant-loop-bit
invariant-loop-bit l =
    (named : List Atom) → IsCounted named l.initial.counted.names l.initial.counted.past → IsCounted (named ++ map atom_of (take l.bit-index l.bits)) l.counted.names l.counted.past
