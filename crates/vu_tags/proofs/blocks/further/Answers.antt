use Rattle.std.proofs.Common.{◌+◌, List, ◌++◌, ℕ, length, length-drop, take, drop, ap, sym, ◌∙◌, append_assoc, arith}
use Rattle.std.proofs.Math.Seq.{take-add}
use Rattle.std.proofs.lemmas.List.{take_rest}
use Rattle.std.specs.List.{concat}
use Rattle.vu_tags.specs.Lines.{lines_of}
use Rattle.vu_tags.specs.Statements.{further_lines}
use Rattle.vu_tags.proofs.LineLemmas.{further-on}
use Rattle.vu_tags.proofs.blocks.further.Goals as goal

pub loop-at-preserved : goal.loop-at-preserved
loop-at-preserved c =
    let text = c.args.text.now in
    let at = c.loop-at.at in
    let len = c.line_len-len.result in
    let within = rw take_rest at c.line_len-len.ensures.within in
    let first = rw take_rest at c.line_len-len.ensures.first in
    let goes = rw take_rest at (sym c.goes_on.ensures ∙ c.if-not-goes_on.false) in
    let next = further-on text at len first goes in
    let rest = further_lines (lines_of (drop (at + len) text)) in
    record {
      in_text = omega (arith, within, length-drop at text);
      few = omega (arith, c.line_len-len.ensures.some);
      lines_are = omega (arith, c.loop-at.invariant.lines_are, ap length next);
      bytes_are =
          ap (λ (front : List ℕ). front ++ concat rest) (take-add at len text)
          ∙ append_assoc (take at text) (take len (drop at text)) (concat rest)
          ∙ ap (λ (lines : List (List ℕ)). take at text ++ concat lines) (sym next)
          ∙ c.loop-at.invariant.bytes_are;
    }
