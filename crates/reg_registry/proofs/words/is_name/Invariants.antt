use Rattle.std.proofs.Common.{◌≡◌, drop, ◌&&◌}
use Rattle.std.specs.Prelude.{nat_le}
use Rattle.std.specs.List.{list_all}
use Rattle.reg_registry.proofs.words.is_name.Given as goal

-- each byte so far is one of a name
abbrev pub invariant-loop-byte : goal.invariant-loop-byte
invariant-loop-byte l =
    list_all (λ byte. nat_le 33 byte && nat_le byte 126) (drop l.byte-index l.text) ≡ list_all (λ byte. nat_le 33 byte && nat_le byte 126) l.text
