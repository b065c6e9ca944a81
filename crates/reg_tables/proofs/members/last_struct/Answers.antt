use Rattle.std.proofs.Common.{ap, sym, ◌∙◌}
use Rattle.std.specs.Prelude.{slice_get}
use Rattle.reg_forms.specs.declared.forms.Forms.{Forms}
use Rattle.reg_tables.proofs.LastLemmas.{last-struct, last-within, no-struct}
use Rattle.reg_tables.proofs.members.last_struct.Goals as goal

pub returns-in-Some-clause-last : goal.returns-in-Some-clause-last
returns-in-Some-clause-last c =
    let all = c.as_slice.ensures ∙ ap (λ (f : Forms). f.declarations) c.forms.ensures in
    last-struct c.args.tables.now c.args.lasts.now c.args.owner.now c.in-Some.at c.last_from.result c.requires (sym c.declared_at.ensures ∙ c.in-Some.is)
    (λ d h. c.last_from.ensures d (ap (λ declarations. slice_get declarations c.in-Some.at) all ∙ h))

pub returns-in-Some-clause-within : goal.returns-in-Some-clause-within
returns-in-Some-clause-within c =
    let all = c.as_slice.ensures ∙ ap (λ (f : Forms). f.declarations) c.forms.ensures in
    last-within c.args.tables.now c.args.lasts.now c.args.owner.now c.in-Some.at c.last_from.result c.requires (sym c.declared_at.ensures ∙ c.in-Some.is)
    (λ d h. c.last_from.ensures d (ap (λ declarations. slice_get declarations c.in-Some.at) all ∙ h))

pub returns-in-None-clause-last : goal.returns-in-None-clause-last
returns-in-None-clause-last c = no-struct c.args.tables.now c.args.owner.now (sym c.declared_at.ensures ∙ c.in-None.is)
