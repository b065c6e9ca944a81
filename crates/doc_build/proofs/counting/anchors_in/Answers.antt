use Rattle.std.proofs.Common.{◌∙◌, refl, sym, ap, cond, List, subst}
use Rattle.std.specs.Prelude.{count_by}
use Rattle.std.specs.Option.{option_copied}
use Rattle.doc_marks.specs.Marks.{marks_of}
use Rattle.doc_marks.specs.declared.Mark.{Mark}
use Rattle.doc_build.specs.Counting.{is_anchor_of}
use Rattle.doc_build.proofs.CountLemmas.{Counts, count-cons, counts-all, counts-more, one-at-most}
use Rattle.doc_build.proofs.counting.anchors_in.Goals as goal

pub loop-mark-preserved : goal.loop-mark-preserved
loop-mark-preserved c =
    let passes = is_anchor_of (option_copied c.args.page) c.args.id.now c.args.line.now in
    let mark = c.in-Some.mark in
    let later = c.next.new.self.left in
    let here = cond (passes mark) 1 0 in (
      c.in-Some.ensures.line ∙ c.loop-mark.invariant.0,
      counts-more c.loop-mark.count c.saturating_add-count.result here c.in_ok-here.here (count_by passes c.loop-mark.marks.left) (count_by passes later) _ c.loop-mark.invariant.1
          (c.in_ok-here.ensures ∙ one-at-most (passes mark)) c.saturating_add-count.ensures (sym (ap (count_by passes) c.in-Some.ensures.first ∙ count-cons passes mark later)),
    )

pub returns : goal.returns
returns c =
    let passes = is_anchor_of (option_copied c.args.page) c.args.id.now c.args.line.now in
    let all = count_by passes (marks_of c.args.line.now) in
    counts-all c.loop-mark.count all (subst (λ (left : List Mark). Counts c.loop-mark.count (count_by passes left) all) (c.in_default.ensures.none.0 refl) c.loop-mark.invariant.1)
