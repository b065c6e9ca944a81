use Rattle.std.proofs.Common.{◌∙◌, refl, sym, ap, ◌&&◌, [], ◌∷◌, ◌++◌, subst}
use Rattle.doc_build.specs.Pages.{has}
use Rattle.doc_build.specs.Sites.{Site}
use Rattle.lift_nodes.specs.Nodes.{is_true}
use Rattle.lift_survey.specs.Keeping.{Keeps}
use Rattle.lift_survey.specs.Survey.{sighted_at}
use Rattle.lift_survey.proofs.GrowthLemmas.{Grows-then}
use Rattle.lift_survey.proofs.KeepLemmas.{ready-grown}
use Rattle.lift_survey.proofs.LineLemmas.{and-true, anchor-is, keeps-grown, ready-at, spot-more}
use Rattle.lift_survey.proofs.lines.add_anchor.Goals as goal

pub add_marks-requires : goal.add_marks-requires
add_marks-requires c =
    let old = c.args.pool.now in
    let new = c.put_both.new.pool in
    ready-at new c.args.constants c.args.conds.now c.args.spot _ c.args.pages.now (ready-grown old new c.args.constants c.args.conds.now c.args.spot c.args.pages.now c.in_ok-standing.ensures.grows c.requires.ready) refl
    c.in_ok-standing.ensures.node.held

pub returns-clause-grows : goal.returns-clause-grows
returns-clause-grows c = Grows-then c.args.pool.now c.put_both.new.pool c.add_marks.new.pool c.in_ok-standing.ensures.grows c.in_ok-add_marks.ensures.grows

pub returns-clause-keeps : goal.returns-clause-keeps
returns-clause-keeps c w seen id is told keeps =
    let old = c.args.pool.now in
    let mid = c.put_both.new.pool in
    let spot = c.args.spot in
    let standing = c.in_ok-standing.standing in
    let survey = c.add_marks.new.survey in
    let bytes = c.as_slice.result.now in
    subst (λ (site : Site). Keeps w c.add_marks.new.pool survey.ids survey.anchors.items survey.links.items (seen ++ sighted_at site))
    (anchor-is spot.line spot.statement spot.start spot.within standing id c.args.name.now bytes c.requires.start.0 c.requires.start.1 (c.as_slice.ensures ∙ c.in_ok-bytes.ensures))
    (c.in_ok-add_marks.ensures.keeps w seen (id ∷ [])
    (spot-more w old mid c.args.constants c.args.conds.now spot c.args.pages.now [] (id ∷ []) standing c.in_ok-standing.ensures.grows c.requires.ready is
    (λ choice names set t. c.in_ok-standing.ensures.node.value choice ∙ ap (λ b. is_true old choice spot.standing && b) (told choice names set t ∙ sym (and-true (has set id)))))
    (keeps-grown w old mid c.args.survey.now.ids c.args.survey.now.anchors.items c.args.survey.now.links.items seen c.in_ok-standing.ensures.grows keeps))
