use Rattle.std.proofs.Common.{◌∙◌, sym, ap}
use Rattle.std.proofs.lemmas.Bool.{false≢true}
use Rattle.vkb_bytes.specs.Bytes.{is_letter, is_word_byte}
use Rattle.doc_cond.specs.Lines.{is_run}
use Rattle.doc_cond.proofs.Targets.{no_front, no_kind, no_ending, page_parts}
use Rattle.doc_cond.proofs.lines.page_name.Goals as goal
use Rattle.doc_cond.proofs.lines.page_name.Goals.{else-are_letters-via-then-are_letters+then-is_word+else-same, else-are_letters-via-then-are_letters+else-is_word, else-are_letters-via-else-are_letters}

pub returns-in_err-page-clause-none : goal.returns-in_err-page-clause-none
returns-in_err-page-clause-none c = rw c.from_residual.ensures (λ name. no_front c.args.front.now name c.args.target.now c.in_err-page.ensures.none)

pub returns-in_err-kind-clause-none : goal.returns-in_err-kind-clause-none
returns-in_err-kind-clause-none c = rw c.from_residual-in_err-kind.ensures (λ name. no_kind c.args.front.now name c.args.target.now c.in_ok-page.page.now c.in_ok-page.ensures.found c.in_err-kind.ensures.none)

pub returns-in_err-name-clause-none : goal.returns-in_err-name-clause-none
returns-in_err-name-clause-none c = rw c.from_residual-in_err-name.ensures (λ name.
    no_ending c.args.front.now name c.args.target.now c.in_ok-page.page.now c.in_ok-kind.kind.now c.in_ok-kind.file.now c.in_ok-page.ensures.found c.in_ok-kind.ensures.found.0 c.in_ok-kind.ensures.found.1 c.in_err-name.ensures.none)

pub returns-else-are_letters-clause-none : goal.returns-else-are_letters-clause-none
returns-else-are_letters-clause-none c = λ name s.
    let parts = page_parts c.args.front.now name c.args.target.now c.in_ok-page.page.now c.in_ok-kind.kind.now c.in_ok-kind.file.now c.in_ok-name.name.now c.in_ok-name.ending.now c.in_ok-page.ensures.found c.in_ok-kind.ensures.found.0 c.in_ok-kind.ensures.found.1 c.in_ok-name.ensures.found.0 c.in_ok-name.ensures.found.1 s in
    elim c.else-are_letters.branch [
      | else-are_letters-via-then-are_letters+then-is_word+else-same w ↦ false≢true (sym w.if-same.false ∙ w.same.ensures.1 parts.2)
      | else-are_letters-via-then-are_letters+else-is_word w ↦ false≢true (sym w.if-is_word.false ∙ (w.is_word.ensures ∙ (ap (is_run is_word_byte) parts.1 ∙ s.name_is)))
      | else-are_letters-via-else-are_letters w ↦ false≢true (sym w.if-are_letters.false ∙ (c.are_letters.ensures ∙ (ap (is_run is_letter) parts.0 ∙ s.kind_is)))
    ]
