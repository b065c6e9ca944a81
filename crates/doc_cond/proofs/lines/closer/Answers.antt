use Rattle.std.proofs.Common.{◌∙◌, sym, refl, eq-eqb}
use Rattle.std.proofs.lemmas.Bool.{false≢true}
use Rattle.doc_cond.proofs.Cuts.{no_bracket_closer, no_names_closer, open_closer}
use Rattle.doc_cond.proofs.lines.closer.Goals as goal

pub returns-in_default : goal.returns-in_default
returns-in_default c = record { begun = refl; unspelled = no_bracket_closer c.args.rest.now c.in_default.ensures.none }

pub returns-then-not-same : goal.returns-then-not-same
returns-then-not-same c =
    let found = c.in-Some.ensures.found in
    record { begun = refl; unspelled = open_closer c.args.rest.now c.in-Some.text.now c.in-Some.tail.now found.0 found.1 (λ e. false≢true (c.if-not-same.ensures.1 e)) }

pub returns-in_default-2 : goal.returns-in_default-2
returns-in_default-2 c =
    let found = c.in-Some.ensures.found in
    let none = rw c.in_default-2.is at c.in_ok-condition.ensures in
    record { begun = refl; unspelled = no_names_closer c.args.rest.now c.in-Some.text.now c.in-Some.tail.now found.0 found.1 (λ e. false≢true (sym c.if-is_empty.false ∙ (c.is_empty.ensures ∙ eq-eqb _ 0 e))) none }
