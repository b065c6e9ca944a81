use Rattle.std.proofs.Common.{ap, sym, subst, ◌∙◌}
use Rattle.std.specs.List.{list_any}
use Rattle.std.specs.Prelude.{is_some, Err}
use Rattle.reg_forms.specs.declared.forms.Forms.{Forms}
use Rattle.reg_forms.specs.declared.forms.OptionForm.{OptionForm}
use Rattle.reg_rows.specs.Answer.{IsAnswer}
use Rattle.reg_rows.specs.declared.fault.RowFault.{RowFault}
use Rattle.reg_rows.proofs.AcceptLemmas.{accepted, read-once, told, without-features}
use Rattle.reg_rows.proofs.answer.Goals as goal

pub returns-in-Some : goal.returns-in-Some
returns-in-Some c =
    subst (λ (e : RowFault). IsAnswer c.args.tables.now (Err e)) (sym c.bad.ensures)
    (told c.args.tables.now c.args.words.now c.in_ok-fault.field-0 c.in-Some.fault c.requires.words c.in_ok-fault.ensures c.in-Some.is)

pub returns-then-not-has_feature : goal.returns-then-not-has_feature
returns-then-not-has_feature c =
    without-features c.args.tables.now c.args.words.now c.in_ok-fault.field-0 c.requires.words c.in_ok-fault.ensures c.in_default.is
    (sym (c.has_feature.ensures ∙ ap (list_any (λ (o : OptionForm). is_some o.version)) (c.as_slice.ensures ∙ ap (λ (f : Forms). f.options) c.forms.ensures)) ∙ c.if-not-has_feature.true)

pub build-requires-clause-accepted : goal.build-requires-clause-accepted
build-requires-clause-accepted c =
    accepted c.args.tables.now c.args.words.now c.in_ok-fault.field-0 c.requires.words c.in_ok-fault.ensures c.in_default.is
    (sym (c.has_feature.ensures ∙ ap (list_any (λ (o : OptionForm). is_some o.version)) (c.as_slice.ensures ∙ ap (λ (f : Forms). f.options) c.forms.ensures)) ∙ c.if-not-has_feature.false)

pub build-requires-clause-once : goal.build-requires-clause-once
build-requires-clause-once c = read-once c.args.tables.now c.args.words.now c.requires.words
