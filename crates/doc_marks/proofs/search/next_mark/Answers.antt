use Rattle.std.proofs.Common.{sym, ◌∙◌}
use Rattle.std.proofs.lemmas.List.{take_rest}
use Rattle.doc_marks.proofs.SearchLemmas.{next_from_rest, none_from_rest, no_marks_left}
use Rattle.doc_marks.proofs.search.next_mark.Goals as goal

pub mark_by-requires-clause-next : goal.mark_by-requires-clause-next
mark_by-requires-clause-next c =
    next_from_rest c.args.line.now c.loop-step.scan c.in-Some.step (rw take_rest at c.in-Some.ensures)

pub returns-clause-none : goal.returns-clause-none
returns-clause-none c =
    let here = c.loop-step.invariant.in_line in
    sym c.loop-step.invariant.none_passed
    ∙ no_marks_left c.args.line.now c.loop-step.scan here (none_from_rest c.args.line.now c.loop-step.scan (rw take_rest at c.in_default.ensures) here)
