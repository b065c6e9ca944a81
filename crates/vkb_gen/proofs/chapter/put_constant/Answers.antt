use Rattle.std.proofs.Common.{List, ℕ, ◌++◌, ap, ◌∙◌, string_bytes}
use Rattle.vkb_gen.specs.Chapter.{constant_anchor, constant_lines, endif_line, ifdef_line, ifndef_line}
use Rattle.vkb_gen.specs.Chapter as chapter
use Rattle.vkb_gen.proofs.JoiningLemmas.{joined}
use Rattle.vkb_gen.proofs.chapter.put_constant.Goals as goal

pub returns : goal.returns
returns c =
    let n = c.args.number in
    let first = c.in_ok-put_conditional.ensures in
    let second = c.in_ok-put_anchor.ensures ∙ ap (λ (t : List ℕ). t ++ constant_anchor n) first in
    let third = c.in_ok-put_conditional-2.ensures ∙ ap (λ (t : List ℕ). t ++ endif_line n) second in
    let fourth = c.in_ok-put_conditional-3.ensures ∙ ap (λ (t : List ℕ). t ++ ifndef_line n) third in
    let fifth = c.in_ok-put_anchor-2.ensures ∙ ap (λ (t : List ℕ). t ++ constant_anchor n) fourth in
    let sixth = c.in_ok-put_conditional-4.ensures ∙ ap (λ (t : List ℕ). t ++ endif_line n) fifth in
    c.in_ok-put_constant_link.ensures ∙ ap (λ (t : List ℕ). t ++ chapter.constant_link n) sixth
    ∙ joined (string_bytes c.args.text.now) (constant_lines n)
