use Rattle.std.proofs.Common.{◌∙◌, ap, sym, subst, List, ℕ}
use Rattle.std.proofs.lemmas.List.Elements.{All-filter, All-same}
use Rattle.vkb_formula.specs.Names.{AreDifferent}
use Rattle.reg_registry.specs.Rows.{bare_rows}
use Rattle.lift_check.specs.Options.{free_among}
use Rattle.lift_check.proofs.NameLemmas.{IsNamed}
use Rattle.lift_check.proofs.OptionsLemmas.{free_among-alike, options-differ}
use Rattle.lift_check.proofs.options.bare_but.Goals as goal

pub bare-requires-clause-differ : goal.bare-requires-clause-differ
bare-requires-clause-differ c =
    let set = c.in_ok-set.set in
    let names = c.args.names.now in
    subst (λ (ns : List (List ℕ)). AreDifferent ns) (sym (c.as_slice.ensures.value ∙ c.in_ok-free.ensures.free)) (options-differ set names c.in_ok-free.ensures.differ)

pub bare-requires-clause-named : goal.bare-requires-clause-named
bare-requires-clause-named c =
    let set = c.in_ok-set.set in
    let names = c.args.names.now in
    All-same IsNamed c.as_slice.result.now (free_among set names) (c.as_slice.ensures.value ∙ c.in_ok-free.ensures.free) (All-filter _ IsNamed names c.requires)

pub returns : goal.returns
returns c =
    c.in_ok-registry.ensures ∙ ap bare_rows (c.as_slice.ensures.value ∙ (c.in_ok-free.ensures.free ∙ free_among-alike c.in_ok-set.set c.args.always.now c.in_ok-set.ensures c.args.names.now))
