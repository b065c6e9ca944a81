use Rattle.std.proofs.Common.{◌∙◌, refl, sym, ap, ◌<◌, ◌&&◌, List, [], ◌∷◌, ◌++◌, map, length, arith, subst}
use Rattle.std.specs.List.{enumerate_from, flat_map}
use Rattle.doc_build.specs.Pages.{has}
use Rattle.doc_build.specs.Sites.{statement_site}
use Rattle.vu_implicit.specs.declared.statement.Statement.{Statement}
use Rattle.lift_nodes.specs.Nodes.{is_true}
use Rattle.lift_survey.specs.Keeping.{Keeps}
use Rattle.lift_survey.specs.Survey.{sighted_at}
use Rattle.lift_survey.proofs.GrowthLemmas.{Grows-then}
use Rattle.lift_survey.proofs.KeepLemmas.{ready-grown}
use Rattle.lift_survey.proofs.LineLemmas.{and-true, keeps-grown, name-told, ready-at, spot-more, world-grown}
use Rattle.lift_survey.proofs.lines.add_usage.Goals as goal

pub add_statements-requires-clause-ready : goal.add_statements-requires-clause-ready
add_statements-requires-clause-ready c =
    let old = c.args.pool.now in
    let new = c.put_both.new.pool in
    ready-at new c.args.constants c.args.conds.now c.args.spot _ c.args.pages.now (ready-grown old new c.args.constants c.args.conds.now c.args.spot c.args.pages.now c.in_ok-standing.ensures.grows c.requires.ready) refl
    c.in_ok-standing.ensures.node.held

pub returns-clause-grows : goal.returns-clause-grows
returns-clause-grows c = Grows-then c.args.pool.now c.put_both.new.pool c.add_statements.new.pool c.in_ok-standing.ensures.grows c.in_ok-add_statements.ensures.grows

pub returns-clause-keeps : goal.returns-clause-keeps
returns-clause-keeps c w seen world is keeps =
    let old = c.args.pool.now in
    let mid = c.put_both.new.pool in
    let r = c.args.r.now in
    let names = c.args.names.now in
    let id = c.args.id in
    let spot = c.args.spot in
    let standing = c.in_ok-standing.standing in
    let grows = c.in_ok-standing.ensures.grows in
    let survey = c.add_statements.new.survey in
    let there : id.0 < length names = omega (arith, c.requires.id, c.requires.names) in
    subst (λ (all : List Statement). Keeps w c.add_statements.new.pool survey.ids survey.anchors.items survey.links.items (seen ++ flat_map sighted_at (map (statement_site spot.line id) (enumerate_from 1 all))))
    (c.as_slice.ensures.value ∙ c.in_ok-all.ensures)
    (c.in_ok-add_statements.ensures.keeps w seen r id (world-grown w old mid r names grows world)
    (spot-more w old mid c.args.constants c.args.conds.now spot c.args.pages.now [] (id ∷ []) standing grows c.requires.ready is
    (λ choice set_names set told. c.in_ok-standing.ensures.node.value choice ∙ ap (λ b. is_true old choice spot.standing && b) (name-told w old r names world id there choice set_names set told ∙ sym (and-true (has set id)))))
    (keeps-grown w old mid c.args.survey.now.ids c.args.survey.now.anchors.items c.args.survey.now.links.items seen grows keeps))
