use Rattle.std.proofs.Common.{sym, ◌-◌, arith}
use Rattle.doc_marks.proofs.SearchLemmas.{one_mark, no_macro_mark}
use Rattle.doc_marks.proofs.search.macro_before.Goals as goal

pub returns-in-Some-clause-value : goal.returns-in-Some-clause-value
returns-in-Some-clause-value c =
    let next = c.requires.next in
    one_mark c.args.line.now c.args.scan c.args.colon (c.args.colon - c.loop-letters.letters) c.in-Some.mark next.none_before next.found (omega arith) (omega arith) next.in_line (sym c.in-Some.ensures.value)

pub returns-clause-value : goal.returns-clause-value
returns-clause-value c =
    let next = c.requires.next in
    no_macro_mark c.args.line.now c.args.scan c.args.colon next.none_before c.requires.is_colon next.from_scan next.in_line
    (λ k five less fits. c.loop-letters.invariant k five (omega arith) fits)
