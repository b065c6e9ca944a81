use Rattle.std.proofs.Common.{◌≡◌, ◌∙◌, refl, sym, ap, ◌+◌, List, [], ◌∷◌, ◌++◌, map, take, arith, subst, append_assoc}
use Rattle.std.specs.List.{enumerate_from, flat_map}
use Rattle.std.proofs.Math.Seq.{take-length}
use Rattle.vu_implicit.specs.declared.statement.Statement.{Statement}
use Rattle.doc_build.specs.Sites.{statement_site}
use Rattle.lift_survey.specs.Keeping.{Keeps}
use Rattle.lift_survey.specs.Survey.{Sighted, sighted_at}
use Rattle.lift_survey.proofs.GrowthLemmas.{Grows-then}
use Rattle.lift_survey.proofs.KeepLemmas.{ready-grown, spot-grown}
use Rattle.lift_survey.proofs.LineLemmas.{first_statements, ready-at, spot-at, statements-more, world-grown}
use Rattle.lift_survey.proofs.lines.add_statements.Goals as goal

pub add_statement-requires-clause-ready : goal.add_statement-requires-clause-ready
add_statement-requires-clause-ready c =
    let ready = ready-grown c.args.pool.now c.loop-place.pool c.args.constants c.args.conds.now c.args.spot c.args.pages.now c.loop-place.invariant.grows c.requires.ready in
    ready-at c.loop-place.pool c.args.constants c.args.conds.now c.args.spot _ c.args.pages.now ready refl ready.standing

pub loop-place-preserved : goal.loop-place-preserved
loop-place-preserved c =
    let old = c.args.pool.now in
    let pool = c.loop-place.pool in
    let new = c.add_statement.new.pool in
    let conds = c.args.conds.now in
    let spot = c.args.spot in
    let pages = c.args.pages.now in
    let all = c.args.all.now in
    let k = c.loop-place.place in
    let statement = c.index-all-place.result in
    let was = c.loop-place.invariant in
    let done = c.in_ok-add_statement.ensures in
    let survey = c.add_statement.new.survey in
    record {
      grows = Grows-then old pool new was.grows done.grows;
      keeps = λ w seen r id world is keeps.
          subst (λ (seen : List Sighted). Keeps w new survey.ids survey.anchors.items survey.links.items seen)
          (append_assoc seen (first_statements spot.line id all k) (sighted_at (statement_site spot.line id (k + 1, statement)))
          ∙ ap (λ (more : List Sighted). seen ++ more) (sym (statements-more spot.line id all k statement c.loop-place-test.true c.index-all-place.is)))
          (done.keeps w (seen ++ first_statements spot.line id all k) r id (world-grown w old pool r c.args.names.now was.grows world)
          (spot-at w pool conds spot pages (id ∷ []) (k + 1) spot.start (spot-grown w old pool c.args.constants conds spot pages (id ∷ []) was.grows c.requires.ready is)) (was.keeps w seen r id world is keeps));
    }

pub returns-clause-keeps : goal.returns-clause-keeps
returns-clause-keeps c w seen r id world is keeps =
    let all = c.args.all.now in
    let spot = c.args.spot in
    let survey = c.loop-place.survey in
    let whole : take c.loop-place.place all ≡ all = ap (λ n. take n all) (omega (arith, c.loop-place-test.false, c.loop-place.auto.place-end)) ∙ take-length all in
    subst (λ (statements : List Statement). Keeps w c.loop-place.pool survey.ids survey.anchors.items survey.links.items (seen ++ flat_map sighted_at (map (statement_site spot.line id) (enumerate_from 1 statements)))) whole
    (c.loop-place.invariant.keeps w seen r id world is keeps)
