use Rattle.std.proofs.Common.{◌≡◌, ◌++◌, take}
use Rattle.std.specs.List.{filter, flat_map}
use Rattle.hdr_writer.specs.EnumTypes.{value_line}
use Rattle.hdr_writer.specs.Values.{stands}
use Rattle.hdr_writer.proofs.values.put_plain_values.Given as goal

abbrev pub invariant-loop-value : goal.invariant-loop-value
invariant-loop-value l =
    l.text.items ≡ l.initial.text.items ++ flat_map (value_line l.shape l.name) (filter (stands l.active l.values) (take l.value-index l.values))
