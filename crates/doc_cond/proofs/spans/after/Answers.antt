use Rattle.std.proofs.Common.{◌++◌, length, ap, ◌∙◌, sym}
use Rattle.std.proofs.lemmas.List.{take_rest}
use Rattle.doc_cond.proofs.Fronts.{begins_front}
use Rattle.doc_cond.proofs.spans.after.Goals as goal

pub returns-then-begins-clause-found : goal.returns-then-begins-clause-found
returns-then-begins-clause-found c =
    let line = c.args.line.now in
    let word = c.args.word.now in
    begins_front line word (sym c.begins.ensures ∙ c.if-begins.true) ∙ ap (λ rest. word ++ rest) (sym (take_rest line (length word)))
