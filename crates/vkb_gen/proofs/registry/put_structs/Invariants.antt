use Rattle.std.proofs.Common.{◌≡◌, ◌++◌, take, string_bytes}
use Rattle.std.specs.List.{flat_map}
use Rattle.vkb_gen.specs.Registry.{struct_line}
use Rattle.vkb_gen.proofs.registry.put_structs.Given as goal

-- the lines of the items so far are put
abbrev pub invariant-loop-item : goal.invariant-loop-item
invariant-loop-item l = string_bytes l.text ≡ string_bytes l.fn.text ++ flat_map struct_line (take l.item-index l.items)
