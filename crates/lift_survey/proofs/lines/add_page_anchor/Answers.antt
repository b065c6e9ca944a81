use Rattle.std.proofs.Common.{◌≡◌, ◌∙◌, sym, ap, ◌<◌, ℕ, List, [], ◌∷◌, ◌++◌, length, Option, Some, arith, subst}
use Rattle.std.specs.List.{flat_map}
use Rattle.std.specs.Option.{option_map_or}
use Rattle.std.proofs.lemmas.List.{append-nil}
use Rattle.std.proofs.lemmas.Option.{slice_get_within}
use Rattle.vkb_formula.specs.Names.{place_of}
use Rattle.vkb_formula.specs.declared.name_table.NameId.{NameId}
use Rattle.doc_build.specs.Sites.{anchor_site}
use Rattle.reg_registry.specs.Rows.{id_of}
use Rattle.lift_survey.specs.Keeping.{Keeps}
use Rattle.lift_survey.specs.Survey.{Sighted, sighted_at}
use Rattle.lift_survey.proofs.LineLemmas.{found-is, name-told}
use Rattle.lift_survey.proofs.lines.add_page_anchor.Goals as goal

pub returns-in_ok-add_anchor-in-Some-clause-keeps : goal.returns-in_ok-add_anchor-in-Some-clause-keeps
returns-in_ok-add_anchor-in-Some-clause-keeps c w seen world is keeps =
    let r = c.args.r.now in
    let names = c.args.names.now in
    let name = c.args.name.now in
    let line = c.args.spot.line in
    let id = c.in-Some.id in
    let new = c.add_anchor.new.pool in
    let survey = c.add_anchor.new.survey in
    let found : id_of r.names name ≡ Some id = found-is (Some id) r.names name (c.in-Some.ensures.place ∙ ap (place_of name) c.names.ensures) in
    let there : id.0 < length names = omega (arith, slice_get_within c.names.result.now id.0 name c.in-Some.ensures.found, ap (λ (ns : List (List ℕ)). length ns) c.names.ensures, c.requires.names) in
    subst (λ (o : Option NameId). Keeps w new survey.ids survey.anchors.items survey.links.items (seen ++ flat_map sighted_at (option_map_or (λ i. anchor_site line name i ∷ []) o []))) (sym found)
    (subst (λ (more : List Sighted). Keeps w new survey.ids survey.anchors.items survey.links.items (seen ++ more)) (sym (append-nil (sighted_at (anchor_site line name id))))
    (c.in_ok-add_anchor-in-Some.ensures.keeps w seen id is (λ choice set_names set told. name-told w c.args.pool.now r names world id there choice set_names set told) keeps))
