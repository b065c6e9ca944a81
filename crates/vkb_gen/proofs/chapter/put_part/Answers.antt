use Rattle.std.proofs.Common.{List, ℕ, ◌++◌, ap, ◌∙◌, string_bytes}
use Rattle.std.specs.List.{concat}
use Rattle.vkb_gen.specs.Chapter.{constant_lines, part_of, struct_lines}
use Rattle.vkb_gen.proofs.JoiningLemmas.{joined_two}
use Rattle.vkb_gen.proofs.chapter.put_part.Goals as goal

pub returns : goal.returns
unfolding part_of
returns c =
    let item = c.args.item in
    let constant = constant_lines item.number in
    c.in_ok-put_constant.ensures ∙ ap (λ (t : List ℕ). t ++ concat constant) c.in_ok-put_struct.ensures
    ∙ joined_two (string_bytes c.args.text.now) (struct_lines item) constant
