use Rattle.std.proofs.Common.{◌≡◌, filter, map, take}
use Rattle.std.specs.List.{flat_map}
use Rattle.reg_tables.specs.Bits.{Readings, atom_of, atoms_in, is_member_name}
use Rattle.reg_tables.specs.Words.{AreReadings, words_in}
use Rattle.reg_tables.proofs.bits.member_names.Given as goal

abbrev pub invariant-loop-at : goal.invariant-loop-at
invariant-loop-at l =
    (readings : Readings) → AreReadings l.forms readings → l.words ≡ words_in readings
    → map atom_of l.named.items ≡ flat_map (λ reading. filter (λ atom. is_member_name atom.1) (atoms_in reading)) (take l.at readings)
