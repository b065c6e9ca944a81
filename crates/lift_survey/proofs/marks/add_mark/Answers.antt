use Rattle.std.proofs.Common.{refl}
use Rattle.lift_survey.specs.declared.LiftedMark.{LiftedMark}
use Rattle.lift_survey.specs.Keeping.{site_at}
use Rattle.lift_survey.specs.Survey.{Sighted, place_of}
use Rattle.lift_survey.proofs.KeepLemmas.{keeps-anchor, keeps-link, lifts-new}
use Rattle.lift_survey.proofs.marks.add_mark.Goals as goal

pub returns-in_ok-push-clause-keeps : goal.returns-in_ok-push-clause-keeps
returns-in_ok-push-clause-keeps c w seen needs spot keeps =
    let old = c.args.pool.now in
    let new = c.put_cases.new.pool in
    let ids = c.put_cases.new.ids in
    let bytes = c.args.bytes.now in
    let s : Sighted = record { site = site_at c.args.spot bytes needs; mark = c.args.mark } in
    let m : LiftedMark = record { place = place_of s; cases = c.in_ok-cases.cases } in
    let done = c.in_ok-cases.ensures in
    keeps-anchor w old new c.args.survey.now.ids ids done.grows done.ids s m
    (lifts-new w old new ids c.args.conds.now c.args.spot c.args.pages.now needs bytes c.args.mark m spot done.cases refl) seen
    c.args.survey.now.anchors.items c.args.survey.now.links.items c.push.new.self.items c.in_ok-push.ensures.items c.if-mark.true keeps

pub returns-in_ok-push-2-clause-keeps : goal.returns-in_ok-push-2-clause-keeps
returns-in_ok-push-2-clause-keeps c w seen needs spot keeps =
    let old = c.args.pool.now in
    let new = c.put_cases.new.pool in
    let ids = c.put_cases.new.ids in
    let bytes = c.args.bytes.now in
    let s : Sighted = record { site = site_at c.args.spot bytes needs; mark = c.args.mark } in
    let m : LiftedMark = record { place = place_of s; cases = c.in_ok-cases.cases } in
    let done = c.in_ok-cases.ensures in
    keeps-link w old new c.args.survey.now.ids ids done.grows done.ids s m
    (lifts-new w old new ids c.args.conds.now c.args.spot c.args.pages.now needs bytes c.args.mark m spot done.cases refl) seen
    c.args.survey.now.anchors.items c.args.survey.now.links.items c.push-else-mark.new.self.items c.in_ok-push-2.ensures.items c.if-mark.false keeps
