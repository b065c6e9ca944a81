use Rattle.std.proofs.Common.{ℕ, [], ◌∷◌, List, length, take, ap, sym, ◌∙◌, arith}
use Rattle.std.proofs.Math.ListN.{drop_of_length-le}
use Rattle.std.proofs.Math.Seq.{take-length}
use Rattle.vkb_text.specs.Lines.{lines_of}
use Rattle.doc_build.proofs.UsageLemmas.{lines_of-fed, lines_of-unfed, is_false}
use Rattle.doc_build.proofs.pages.line_len.Goals as goal

pub returns-in-Some-clause-first : goal.returns-in-Some-clause-first
returns-in-Some-clause-first c =
    let first = c.in-Some.ensures in
    lines_of-fed c.args.text.now c.in-Some.end first.0.high first.1 (λ k below. is_false _ (first.0.before k (omega arith) below))

pub returns-in-None-clause-first : goal.returns-in-None-clause-first
returns-in-None-clause-first c =
    let text = c.args.text.now in
    lines_of-unfed text c.requires (λ k below. is_false _ (c.in-None.ensures k (omega arith) below))
    ∙ ap (λ (line : List ℕ). line ∷ []) (sym (take-length text))
    ∙ ap (λ (rest : List ℕ). take (length text) text ∷ lines_of rest) (sym (drop_of_length-le text (omega arith)))
