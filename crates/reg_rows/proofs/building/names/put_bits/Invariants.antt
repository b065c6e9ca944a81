use Rattle.std.proofs.Common.{◌≡◌, drop, map}
use Rattle.reg_rows.specs.BuiltParts.{with_names}
use Rattle.reg_rows.proofs.building.names.put_bits.Given as goal

abbrev pub invariant-loop-bit : goal.invariant-loop-bit
invariant-loop-bit l =
    with_names l.names (map (λ bit. bit.name) (drop l.bit-index l.bits)) ≡ with_names l.initial.names (map (λ bit. bit.name) l.bits)
