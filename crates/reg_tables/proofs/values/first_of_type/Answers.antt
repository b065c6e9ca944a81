use Rattle.std.proofs.Common.{◌≡◌, None, Some, ap, sym, true, ◌∙◌}
use Rattle.std.specs.Option.{option_and_then}
use Rattle.std.specs.Str.{bytes_eq}
use Rattle.reg_tables.specs.Values.{within}
use Rattle.reg_tables.proofs.ValueLemmas.{first-is, within-is}
use Rattle.reg_tables.proofs.values.first_of_type.Goals as goal

pub returns-in_default-clause-row : goal.returns-in_default-clause-row
returns-in_default-clause-row c =
    ap (option_and_then (within c.args.of.now)) (first-is c.args.name.now c.args.tables.now.enumerants None c.in_default.ensures)

pub returns-then-eq-clause-row : goal.returns-then-eq-clause-row
returns-then-eq-clause-row c =
    let of = c.args.of.now in
    let first = c.in-Some-enumerant.first.now in
    let same : bytes_eq of first.of ≡ true = ap (bytes_eq of) (sym c.as_slice.ensures) ∙ sym c.eq.ensures ∙ c.if-eq.true in
    first-is c.args.name.now c.args.tables.now.enumerants (Some c.in-Some.place) c.in-Some.ensures
    ∙ within-is of first _ c.in-Some-enumerant.ensures same
