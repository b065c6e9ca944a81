use Rattle.std.proofs.Common.{◌≡◌, ◌∙◌, ◌++◌, [], Bool, List, ℕ, ap, map, subst, sym}
use Rattle.doc_tree.specs.declared.Cond.{Cond}
use Rattle.doc_tree.specs.Flat.{is_among}
use Rattle.doc_build.specs.Built.{set_names}
use Rattle.doc_build.specs.Choices.{chosen_of}
use Rattle.doc_build.specs.Keeping.{KeepsLines, meets_by, met_from}
use Rattle.doc_build.specs.Names.{is_on}
use Rattle.doc_build.proofs.ChosenLemmas.{names-told}
use Rattle.doc_build.proofs.KeepingLemmas.{keeps-lines}
use Rattle.doc_build.proofs.keeping.conditions_met.Goals as goal

pub returns : goal.returns
returns c = λ text loaded.
    let d = c.args.d.now in
    let always = c.args.always.now in
    let chosen = c.args.chosen.now in
    let names = set_names always c.args.r.now chosen in
    let set = c.in_ok-set.set.items in
    let told : set ≡ map (λ name. is_among names name) d.names =
    c.in_ok-set.ensures always c.in_ok-fixed.ensures ∙ ap (λ (os : List (List ℕ)). map (λ name. is_among (always ++ chosen_of os chosen) name) d.names) c.options.ensures in
    let made : c.in_ok-made.made.items ≡ met_from (meets_by (is_on set)) [] d.conds =
    c.in_ok-made.ensures
    ∙ ap (λ (bs : List Bool). met_from (meets_by (is_on bs)) [] c.as_slice.result.now) c.as_slice-2.ensures.value
    ∙ ap (λ (cs : List Cond). met_from (meets_by (is_on set)) [] cs) c.as_slice.ensures in
    subst (λ (bs : List Bool). KeepsLines names text d bs) (sym made) (keeps-lines text d names (is_on set) loaded (names-told set d names told))
