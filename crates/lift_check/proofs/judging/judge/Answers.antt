use Rattle.std.proofs.Common.{◌≡◌, ◌∙◌, sym, ap, List, length}
use Rattle.lift_survey.specs.declared.LiftedMark.{LiftedMark}
use Rattle.lift_check.specs.Judging.{IsAsked}
use Rattle.lift_check.proofs.PreparedLemmas.{TellMarks, judged}
use Rattle.lift_check.proofs.VerdictLemmas.{AreLaws}
use Rattle.lift_check.proofs.judging.judge.Goals as goal

pub returns : goal.returns
returns c always say =
    let r = c.args.r.now in
    let text = c.args.text.now.bytes in
    let d = c.args.d.now in
    let prepared = c.args.prepared in
    let new = c.survey_document.new.pool in
    let ids = c.in_ok-survey.survey.ids in
    let anchors : List LiftedMark = c.in_ok-survey.survey.anchors.items in
    let links : List LiftedMark = c.in_ok-survey.survey.links.items in
    let laws : AreLaws = record { at_some = c.marks_at_some_choice.ensures; follow = c.marks_follow_the_choice.ensures; stand = c.links_stand_with_their_lines.ensures } in
    let marks : TellMarks r text d prepared.lines.items prepared.names.items new ids anchors links = rw (sym c.as_slice.ensures.value, sym c.as_slice-2.ensures.value) c.in_ok-survey.ensures.marks in
    let over : c.len.result ≡ length r.options = c.len.ensures.count ∙ ap length c.options.ensures in
    let asked : IsAsked new prepared.permit (length r.options) ids anchors links c.in_ok-verdict.verdict = rw (sym over, sym c.as_slice-3.ensures.value, sym c.as_slice-4.ensures.value) c.in_ok-verdict.ensures in
    judged c.nodes_keep_their_meaning.ensures.formulas r text d prepared new c.in_ok-survey.ensures.before c.requires.held laws c.closures_are_there.ensures c.is_sound.ensures always say ids anchors links
    c.in_ok-survey.ensures.different c.in_ok-survey.ensures.anchors c.in_ok-survey.ensures.links marks c.in_ok-verdict.verdict asked
