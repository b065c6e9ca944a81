use Rattle.std.proofs.Common.{map, ap, ◌∙◌}
use Rattle.std.proofs.lemmas.List.{take_all}
use Rattle.reg_forms.specs.declared.forms.Forms.{Forms}
use Rattle.reg_tables.specs.Found.{aliased_at}
use Rattle.reg_tables.proofs.LastLemmas.{are-lasts, next-within}
use Rattle.reg_tables.proofs.members.last_declarations.Goals as goal

pub last_places-requires : goal.last_places-requires
last_places-requires c =
    next-within c.args.tables.now c.as_slice.result.now
    (c.as_slice.ensures.value ∙ c.loop-declaration.invariant
    ∙ ap (map (aliased_at c.args.tables.now))
    (take_all c.loop-declaration.declaration-index c.as_slice-declaration-items.result.now c.loop-declaration-test.false ∙ c.as_slice-declaration-items.ensures ∙ ap (λ (f : Forms). f.declarations) c.forms.ensures))

pub returns : goal.returns
returns c =
    are-lasts c.args.tables.now c.as_slice.result.now c.in_ok-lasts.lasts.items
    (c.as_slice.ensures.value ∙ c.loop-declaration.invariant
    ∙ ap (map (aliased_at c.args.tables.now))
    (take_all c.loop-declaration.declaration-index c.as_slice-declaration-items.result.now c.loop-declaration-test.false ∙ c.as_slice-declaration-items.ensures ∙ ap (λ (f : Forms). f.declarations) c.forms.ensures))
    c.in_ok-lasts.ensures.lasts c.in_ok-lasts.ensures.within
