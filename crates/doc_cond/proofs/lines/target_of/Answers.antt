use Rattle.std.proofs.Common.{◌∙◌, sym, eq-eqb, length}
use Rattle.std.proofs.lemmas.Bool.{false≢true}
use Rattle.doc_cond.proofs.Targets.{no_end, early_end}
use Rattle.doc_cond.proofs.lines.target_of.Goals as goal

pub returns-in_err-_attributes-clause-none : goal.returns-in_err-_attributes-clause-none
returns-in_err-_attributes-clause-none c =
    rw c.from_residual-in_err-_attributes.ensures (λ target. no_end target c.args.rest.now c.in_ok-target.target.now c.in_ok-target.tail.now c.in_ok-target.ensures.found.0 c.in_ok-target.ensures.found.1 c.in_err-_attributes.ensures.none)

pub returns-else-is_empty-clause-none : goal.returns-else-is_empty-clause-none
returns-else-is_empty-clause-none c = λ target.
    early_end target c.args.rest.now c.in_ok-target.target.now c.in_ok-target.tail.now c.in_ok-_attributes._attributes.now c.in_ok-_attributes.end.now
    c.in_ok-target.ensures.found.0 c.in_ok-target.ensures.found.1 c.in_ok-_attributes.ensures.found.0 c.in_ok-_attributes.ensures.found.1
    (λ none. false≢true (sym c.if-is_empty.false ∙ (c.is_empty.ensures ∙ eq-eqb (length c.in_ok-_attributes.end.now) 0 none)))
