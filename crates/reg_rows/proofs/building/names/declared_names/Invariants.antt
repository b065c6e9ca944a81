use Rattle.std.proofs.Common.{◌≡◌, drop, map}
use Rattle.reg_rows.specs.BuiltParts.{with_names}
use Rattle.reg_rows.specs.Rows.{names_in}
use Rattle.reg_rows.proofs.building.names.declared_names.Given as goal

abbrev pub invariant-loop-declaration : goal.invariant-loop-declaration
invariant-loop-declaration l =
    with_names l.names (map (λ d. d.name) (drop l.declaration-index l.tables.declarations)) ≡ names_in l.tables
