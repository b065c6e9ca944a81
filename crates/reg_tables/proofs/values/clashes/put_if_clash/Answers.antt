use Rattle.std.proofs.Common.{None, Some, sym, ◌∙◌}
use Rattle.reg_forms.specs.declared.forms.RowCode.TheVariants.{ValueClash}
use Rattle.reg_tables.proofs.ValueLemmas.{clash-is, clash-test, faulted, first-is, unfaulted}
use Rattle.reg_tables.proofs.values.clashes.put_if_clash.Goals as goal

pub returns-in_default-enumerant_at : goal.returns-in_default-enumerant_at
returns-in_default-enumerant_at c =
    let none = first-is c.as_slice-name.result.now c.args.tables.now.enumerants None c.in_default-enumerant_at.ensures in
    let both = none ∙ sym c.in-Some.ensures in
    absurd (cc)

pub returns-in_ok-put_fault : goal.returns-in_ok-put_fault
returns-in_ok-put_fault c =
    let f = c.args.tables.now in
    let row = c.args.row.now in
    let first = c.in-Some.first.now in
    let there =
    first-is c.as_slice-name.result.now f.enumerants (Some c.in-Some-enumerant_at.at) c.in-Some-enumerant_at.ensures
    ∙ sym c.in-Some.ensures in
    let value = c.value_at.ensures f first c.requires.values there in
    let other = c.value_at-2.ensures f row c.requires.values c.requires.row in
    let test = clash-test f first row _ _ _ _ value other c.is_clash.ensures c.if-is_clash.true in
    rw (clash-is f first row _ c.as_slice-name.ensures c.in-Some.ensures)
    (faulted _ _ _ ValueClash row.place row.name test (rw c.as_slice-name.ensures at c.in_ok-put_fault.ensures))

pub returns-else-is_clash : goal.returns-else-is_clash
returns-else-is_clash c =
    let f = c.args.tables.now in
    let row = c.args.row.now in
    let first = c.in-Some.first.now in
    let there =
    first-is c.as_slice-name.result.now f.enumerants (Some c.in-Some-enumerant_at.at) c.in-Some-enumerant_at.ensures
    ∙ sym c.in-Some.ensures in
    let value = c.value_at.ensures f first c.requires.values there in
    let other = c.value_at-2.ensures f row c.requires.values c.requires.row in
    let test = clash-test f first row _ _ _ _ value other c.is_clash.ensures c.if-is_clash.false in
    rw (clash-is f first row _ c.as_slice-name.ensures c.in-Some.ensures) (unfaulted _ _ ValueClash row.place row.name test)
