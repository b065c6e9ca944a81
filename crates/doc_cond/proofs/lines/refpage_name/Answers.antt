use Rattle.std.proofs.Common.{◌≡◌, ◌∙◌, ◌++◌, sym, ap, subst, List, ℕ, arith, drop}
use Rattle.std.specs.Prelude.{codes}
use Rattle.std.proofs.lemmas.Bool.{false≢true}
use Rattle.std.proofs.lemmas.List.{take_rest}
use Rattle.vkb_bytes.specs.Bytes.{is_word_byte}
use Rattle.doc_cond.specs.Lines.{is_run, IsRefpage}
use Rattle.doc_cond.proofs.Targets.{refpage_made, refpage_parts, run_some}
use Rattle.doc_cond.proofs.Fronts.{begins_on}
use Rattle.doc_cond.proofs.lines.refpage_name.Goals as goal
use Rattle.doc_cond.proofs.lines.refpage_name.Goals.{else-gap-gt0-via-then-gap-gt0+else-is_word, else-gap-gt0-via-else-gap-gt0}

pub returns-in_err-rest-clause-none : goal.returns-in_err-rest-clause-none
returns-in_err-rest-clause-none c = rw c.from_residual.ensures (λ name s.
    false≢true (sym c.in_err-rest.ensures.none ∙ begins_on c.args.line.now (codes ":refpage:") (s.gap ++ name) s.spelled))

pub returns-then-is_word-clause-found : goal.returns-then-is_word-clause-found
returns-then-is_word-clause-found c =
    let rest = c.in_ok-rest.rest.now in
    let n = c.gap_len-gap.result in
    let e = take_rest rest n in
    let made = refpage_made rest n c.gap_len-gap.ensures.value c.gap_len-gap.ensures.within c.if-gap-gt0.true (sym (ap (is_run is_word_byte) e) ∙ (sym c.is_word.ensures ∙ c.if-is_word.true)) in
    subst (λ (name : List ℕ). IsRefpage name c.args.line.now) (sym e) (subst (IsRefpage (drop n rest)) (sym c.in_ok-rest.ensures.found) made)

pub returns-else-gap-gt0-clause-none : goal.returns-else-gap-gt0-clause-none
returns-else-gap-gt0-clause-none c = λ name s.
    let rest = c.in_ok-rest.rest.now in
    let n = c.gap_len-gap.result in
    let refpage = subst (IsRefpage name) c.in_ok-rest.ensures.found s in
    let parts = refpage_parts rest name refpage in
    let name_is : drop n rest ≡ name = ap (λ k. drop k rest) c.gap_len-gap.ensures.value ∙ parts.1 in
    elim c.else-gap-gt0.branch [
      | else-gap-gt0-via-then-gap-gt0+else-is_word w ↦ false≢true (sym w.if-is_word.false ∙ (w.is_word.ensures ∙ (ap (is_run is_word_byte) (take_rest rest n ∙ name_is) ∙ refpage.name_is)))
      | else-gap-gt0-via-else-gap-gt0 w ↦ absurd (omega (arith, w.if-gap-gt0.false, run_some refpage.gap refpage.gap_is, parts.0, c.gap_len-gap.ensures.value))
    ]
