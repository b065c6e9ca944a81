use Rattle.std.proofs.Common.{sym, ap, ◌∙◌}
use Rattle.std.specs.Prelude.{is_none, ◌&&◌}
use Rattle.reg_forms.specs.declared.forms.RowCode.TheVariants.{ValueRange}
use Rattle.reg_tables.specs.Values.{alias_of}
use Rattle.reg_tables.proofs.ValueLemmas.{faulted, number-is, unfaulted}
use Rattle.reg_tables.proofs.values.clashes.put_if_out_of_range.Goals as goal

pub returns-in_ok-put_fault : goal.returns-in_ok-put_fault
returns-in_ok-put_fault c =
    let e = c.args.row.now in
    let number = number-is c.args.tables.now _ _ c.args.place e _ c.requires.values c.requires.row c.number_at.ensures in
    let test = sym (ap (λ n. is_none (alias_of e) && is_none n) number) ∙ sym c.is_out_of_range.ensures ∙ c.if-is_out_of_range.true in
    faulted _ _ _ ValueRange e.place e.name test (rw c.as_slice.ensures at c.in_ok-put_fault.ensures)

pub returns-else-is_out_of_range : goal.returns-else-is_out_of_range
returns-else-is_out_of_range c =
    let e = c.args.row.now in
    let number = number-is c.args.tables.now _ _ c.args.place e _ c.requires.values c.requires.row c.number_at.ensures in
    let test = sym (ap (λ n. is_none (alias_of e) && is_none n) number) ∙ sym c.is_out_of_range.ensures ∙ c.if-is_out_of_range.false in
    unfaulted _ _ _ _ _ test
