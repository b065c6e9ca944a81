use Rattle.std.proofs.Common.{◌≡◌, drop, filter, is_none, map}
use Rattle.reg_tables.specs.Tables.{extensions_in}
use Rattle.reg_rows.specs.BuiltParts.{with_names}
use Rattle.reg_rows.proofs.building.names.put_extensions.Given as goal

abbrev pub invariant-loop-option : goal.invariant-loop-option
invariant-loop-option l =
    with_names l.names (map (λ o. o.name) (filter (λ o. is_none o.version) (drop l.option-index l.forms.options)))
    ≡ with_names l.initial.names (map (λ o. o.name) (extensions_in l.forms))
