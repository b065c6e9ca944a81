use Rattle.std.proofs.Common.{◌≡◌, drop, filter, is_some, map}
use Rattle.reg_tables.specs.Tables.{features_in}
use Rattle.reg_rows.specs.BuiltParts.{with_names}
use Rattle.reg_rows.proofs.building.names.put_features.Given as goal

abbrev pub invariant-loop-option : goal.invariant-loop-option
invariant-loop-option l =
    with_names l.names (map (λ o. o.name) (filter (λ o. is_some o.version) (drop l.option-index l.forms.options)))
    ≡ with_names l.initial.names (map (λ o. o.name) (features_in l.forms))
