use Rattle.std.proofs.Common.{◌≡◌, take}
use Rattle.std.specs.List.{filter_map}
use Rattle.reg_registry.specs.Rows.{id_of}
use Rattle.reg_rows.proofs.building.declared.extended.Given as goal

abbrev pub invariant-loop-text : goal.invariant-loop-text
invariant-loop-text l = l.ids.items ≡ filter_map (id_of l.names) (take l.text-index l.texts)
