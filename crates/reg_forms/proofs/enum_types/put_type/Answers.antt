use Rattle.std.proofs.Common.{sym, ◌∙◌}
use Rattle.reg_forms.proofs.ReadingLemmas.{none_read, one_read}
use Rattle.reg_forms.proofs.RowLemmas.{rows_of-nameless}
use Rattle.reg_forms.proofs.enum_types.put_type.Goals as goal

pub returns-in_ok-put_row-in-Some-2 : goal.returns-in_ok-put_row-in-Some-2
returns-in_ok-put_row-in-Some-2 c =
    let counted = sym c.in_ok-counts.ensures ∙ c.if-not-branch.false in
    let known = sym c.in_ok-kind.ensures ∙ c.in-Some.is in
    let named = sym c.in_ok-name-in-Some.ensures ∙ c.in-Some-2.is in
    one_read c.args.api.now c.args.element.now c.in-Some.kind c.in-Some-2.name c.as_slice.result.now c.args.enums.now c.args.others.now c.put_row.new.enums c.put_row.new.others counted known named c.as_slice.ensures c.in_ok-put_row-in-Some-2.ensures

pub returns-in-None-2 : goal.returns-in-None-2
returns-in-None-2 c =
    let counted = sym c.in_ok-counts.ensures ∙ c.if-not-branch.false in
    let known = sym c.in_ok-kind.ensures ∙ c.in-Some.is in
    let nameless = sym c.in_ok-name-in-Some.ensures ∙ c.in-None-2.is in
    none_read c.args.api.now c.args.element.now c.args.enums.now c.args.others.now (rows_of-nameless c.args.api.now c.args.element.now counted c.in-Some.kind known nameless)
