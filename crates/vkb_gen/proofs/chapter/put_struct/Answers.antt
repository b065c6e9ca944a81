use Rattle.std.proofs.Common.{List, ℕ, [], ◌∷◌, ◌++◌, ap, ◌∙◌, string_bytes}
use Rattle.std.specs.List.{concat}
use Rattle.vkb_gen.specs.Chapter.{endif_line, ifdef_line, include_line, parent_lines, struct_anchor}
use Rattle.vkb_gen.proofs.JoiningLemmas.{between}
use Rattle.vkb_gen.proofs.chapter.put_struct.Goals as goal

pub returns : goal.returns
returns c =
    let n = c.args.item.number in
    let parents = parent_lines c.args.item.parents in
    let first = c.in_ok-put_conditional.ensures in
    let second = c.in_ok-put_anchor.ensures ∙ ap (λ (t : List ℕ). t ++ struct_anchor n) first in
    let third = c.in_ok-put_include.ensures ∙ ap (λ (t : List ℕ). t ++ include_line n) second in
    let fourth = c.in_ok-put_parent.ensures ∙ ap (λ (t : List ℕ). t ++ concat parents) third in
    c.in_ok-put_conditional-2.ensures ∙ ap (λ (t : List ℕ). t ++ endif_line n) fourth
    ∙ between (string_bytes c.args.text.now) (ifdef_line n ∷ struct_anchor n ∷ include_line n ∷ []) parents (endif_line n)
