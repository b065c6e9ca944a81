use Rattle.std.proofs.Common.{◌≡◌, ◌++◌, filter, map, take}
use Rattle.std.specs.Prelude.{slice_range}
use Rattle.reg_tables.specs.Bits.{atom_of, is_member_name}
use Rattle.reg_tables.proofs.bits.put_member_names.Given as goal

abbrev pub invariant-loop-from : goal.invariant-loop-from
invariant-loop-from l =
    map atom_of l.named.items ≡ map atom_of l.initial.named.items
    ++ filter (λ atom. is_member_name atom.1) (map (λ place. (l.text.place, slice_range l.text.text place.0 place.1)) (take l.from-index l.places))
