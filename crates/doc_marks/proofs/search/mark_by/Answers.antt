use Rattle.doc_marks.proofs.SearchLemmas.{bracket_mark}
use Rattle.doc_marks.proofs.search.mark_by.Goals as goal

pub returns-else-line-place-eq58-clause-value : goal.returns-else-line-place-eq58-clause-value
returns-else-line-place-eq58-clause-value c =
    let next = c.requires.next in
    bracket_mark c.args.line.now c.args.scan c.args.place _ next.none_before next.found next.from_scan next.in_line c.if-line-place-eq58.false c.mark_at.ensures.value
