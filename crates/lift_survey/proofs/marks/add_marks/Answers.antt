use Rattle.std.proofs.Common.{◌≡◌, ◌∙◌, refl, sym, ap, List, [], ◌∷◌, ◌++◌, append_assoc, subst}
use Rattle.std.proofs.lemmas.List.{append-nil, map-append}
use Rattle.doc_marks.specs.Marks.{marks_of}
use Rattle.doc_marks.specs.declared.Mark.{Mark}
use Rattle.lift_survey.specs.Keeping.{Keeps, site_at}
use Rattle.lift_survey.specs.Survey.{Sighted}
use Rattle.lift_survey.proofs.GrowthLemmas.{Grows-then}
use Rattle.lift_survey.proofs.KeepLemmas.{ready-grown, spot-grown}
use Rattle.lift_survey.proofs.marks.add_marks.Invariants.{seen_at}
use Rattle.lift_survey.proofs.marks.add_marks.Goals as goal

pub add_mark-requires-clause-ready : goal.add_mark-requires-clause-ready
add_mark-requires-clause-ready c = ready-grown c.args.pool.now c.loop-mark.pool c.args.constants c.args.conds.now c.args.spot c.args.pages.now c.loop-mark.invariant.grows c.requires

pub loop-mark-preserved : goal.loop-mark-preserved
loop-mark-preserved c =
    let old = c.args.pool.now in
    let pool = c.loop-mark.pool in
    let new = c.add_mark.new.pool in
    let conds = c.args.conds.now in
    let spot = c.args.spot in
    let pages = c.args.pages.now in
    let bytes = c.args.bytes.now in
    let mark = c.in-Some.mark in
    let left = c.next.new.self.left in
    let was = c.loop-mark.invariant in
    let done = c.in_ok-add_mark.ensures in
    let survey = c.add_mark.new.survey in
    record {
      here = c.in-Some.ensures.line ∙ was.here;
      short = was.short;
      grows = Grows-then old pool new was.grows done.grows;
      taken = was.taken ++ mark ∷ [];
      all = append_assoc was.taken (mark ∷ []) left ∙ ap (λ (marks : List Mark). was.taken ++ marks) (sym c.in-Some.ensures.first) ∙ was.all;
      keeps = λ w seen needs is keeps.
          let s : Sighted = record { site = site_at spot bytes needs; mark = mark } in
          subst (λ (seen : List Sighted). Keeps w new survey.ids survey.anchors.items survey.links.items seen)
          (append_assoc seen (seen_at spot bytes needs was.taken) (s ∷ [])
          ∙ ap (λ (more : List Sighted). seen ++ more) (sym (map-append (λ (m : Mark). record { site = site_at spot bytes needs; mark = m }) was.taken (mark ∷ []))))
          (done.keeps w (seen ++ seen_at spot bytes needs was.taken) needs (spot-grown w old pool c.args.constants conds spot pages needs was.grows c.requires is) (was.keeps w seen needs is keeps));
    }

pub returns-clause-keeps : goal.returns-clause-keeps
returns-clause-keeps c w seen needs is keeps =
    let spot = c.args.spot in
    let bytes = c.args.bytes.now in
    let was = c.loop-mark.invariant in
    let survey = c.loop-mark.survey in
    let all : was.taken ≡ marks_of bytes = sym (append-nil was.taken) ∙ ap (λ (left : List Mark). was.taken ++ left) (sym (c.in_default.ensures.none.0 refl)) ∙ was.all in
    subst (λ (marks : List Mark). Keeps w c.loop-mark.pool survey.ids survey.anchors.items survey.links.items (seen ++ seen_at spot bytes needs marks)) all (was.keeps w seen needs is keeps)
