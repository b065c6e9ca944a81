use Rattle.std.proofs.Common.{◌≡◌, ◌<◌, sym, ℕ, List, [], All, length, subst}
use Rattle.std.specs.Prelude.{filter, not}
use Rattle.vkb_formula.specs.declared.pool.NodeId.{NodeId}
use Rattle.vkb_formula.specs.declared.pool.PoolNode.{PoolNode}
use Rattle.doc_tree.specs.Loaded.{flat_of}
use Rattle.doc_tree.specs.declared.Cond.{Cond}
use Rattle.doc_tree.specs.declared.DocLine.{DocLine}
use Rattle.doc_tree.specs.declared.Document.{Document}
use Rattle.reg_registry.specs.Rows.{Rows}
use Rattle.lift_survey.specs.declared.LiftedMark.{LiftedMark}
use Rattle.lift_survey.specs.Keeping.{IsDocumentOf, IsWorldOf, Keeps, World}
use Rattle.lift_survey.specs.Survey.{sighted}
use Rattle.lift_survey.proofs.LiftedLemmas.{all-held, keeps-none, whole, whole-document, whole-lifted, whole-world}
use Rattle.lift_survey.proofs.survey_document.Goals as goal

-- what the lines of the document give
whole-keeps : (text : List ℕ) (d : Document) (r : Rows) (old new : List PoolNode) (lines names : List NodeId) (line_count : length lines ≡ length d.lines) (lines_held : All (λ node. node.0 < length old) lines)
    (name_count : length names ≡ length r.names) (names_held : All (λ node. node.0 < length old) names) (doc_lines : List DocLine) (conds : List Cond) (before ids : List (List ℕ)) (anchors_before links_before anchors links : List LiftedMark)
    → doc_lines ≡ d.lines → conds ≡ d.conds → anchors_before ≡ [] → links_before ≡ []
    → ((w : World) (files : List (List ℕ)) → IsWorldOf w old r names → IsDocumentOf w text files doc_lines conds lines → Keeps w old before anchors_before links_before [] → Keeps w new ids anchors links (sighted r w.lines))
    → Keeps (whole text d r old new lines names line_count lines_held name_count names_held) new ids anchors links (sighted r (flat_of text d))
whole-keeps text d r old new lines names line_count lines_held name_count names_held doc_lines conds before ids anchors_before links_before anchors links lines_are conds_are no_anchors no_links keeps =
    let w = whole text d r old new lines names line_count lines_held name_count names_held in
    keeps w d.files (whole-world text d r old new lines names line_count lines_held name_count names_held)
    (subst (λ (ls : List DocLine). IsDocumentOf w text d.files ls conds lines) (sym lines_are)
    (subst (λ (cs : List Cond). IsDocumentOf w text d.files d.lines cs lines) (sym conds_are) (whole-document text d r old new lines names line_count lines_held name_count names_held)))
    (subst (λ (ms : List LiftedMark). Keeps w old before ms links_before []) (sym no_anchors) (subst (λ (ms : List LiftedMark). Keeps w old before [] ms []) (sym no_links) (keeps-none w old before)))

pub returns-clause-anchors : goal.returns-clause-anchors
returns-clause-anchors c =
    let text = c.args.text.now.bytes in
    let d = c.args.d.now in
    let r = c.args.r.now in
    let old = c.args.pool.now in
    let new = c.survey_lines.new.pool in
    let survey = c.survey_lines.new.survey in
    let q = c.requires in
    let keeps =
    whole-keeps text d r old new c.args.lines.now c.args.names.now q.line_count q.lines q.name_count q.names c.as_slice.result.now c.as_slice-2.result.now c.new.result survey.ids c.new-2.result.items c.new-3.result.items survey.anchors.items
    survey.links.items c.as_slice.ensures c.as_slice-2.ensures c.new-2.ensures.items c.new-3.ensures.items c.in_ok-survey_lines.ensures.keeps in
    all-held (whole text d r old new c.args.lines.now c.args.names.now q.line_count q.lines q.name_count q.names) new survey.ids (filter (λ s. s.mark.anchor) (sighted r (flat_of text d))) survey.anchors.items keeps.anchors_are

pub returns-clause-links : goal.returns-clause-links
returns-clause-links c =
    let text = c.args.text.now.bytes in
    let d = c.args.d.now in
    let r = c.args.r.now in
    let old = c.args.pool.now in
    let new = c.survey_lines.new.pool in
    let survey = c.survey_lines.new.survey in
    let q = c.requires in
    let keeps =
    whole-keeps text d r old new c.args.lines.now c.args.names.now q.line_count q.lines q.name_count q.names c.as_slice.result.now c.as_slice-2.result.now c.new.result survey.ids c.new-2.result.items c.new-3.result.items survey.anchors.items
    survey.links.items c.as_slice.ensures c.as_slice-2.ensures c.new-2.ensures.items c.new-3.ensures.items c.in_ok-survey_lines.ensures.keeps in
    all-held (whole text d r old new c.args.lines.now c.args.names.now q.line_count q.lines q.name_count q.names) new survey.ids (filter (λ s. not s.mark.anchor) (sighted r (flat_of text d))) survey.links.items keeps.links_are

pub returns-clause-marks : goal.returns-clause-marks
returns-clause-marks c =
    let text = c.args.text.now.bytes in
    let d = c.args.d.now in
    let r = c.args.r.now in
    let old = c.args.pool.now in
    let new = c.survey_lines.new.pool in
    let survey = c.survey_lines.new.survey in
    let q = c.requires in
    whole-lifted text d r old new c.args.lines.now c.args.names.now q.line_count q.lines q.name_count q.names survey.ids survey.anchors.items survey.links.items c.in_ok-survey_lines.ensures.grows
    (whole-keeps text d r old new c.args.lines.now c.args.names.now q.line_count q.lines q.name_count q.names c.as_slice.result.now c.as_slice-2.result.now c.new.result survey.ids c.new-2.result.items c.new-3.result.items survey.anchors.items
    survey.links.items c.as_slice.ensures c.as_slice-2.ensures c.new-2.ensures.items c.new-3.ensures.items c.in_ok-survey_lines.ensures.keeps)
