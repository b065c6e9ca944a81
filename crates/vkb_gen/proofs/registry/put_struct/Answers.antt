use Rattle.std.proofs.Common.{List, ℕ, [], ◌∷◌, ◌++◌, codes, decimal, ap, ◌∙◌, string_bytes}
use Rattle.vkb_gen.specs.Lines.{line}
use Rattle.vkb_gen.specs.Registry.{pointer_of, struct_line}
use Rattle.vkb_gen.proofs.JoiningLemmas.{spliced}
use Rattle.vkb_gen.proofs.registry.put_struct.Goals as goal

pub returns : goal.returns
unfolding struct_line
returns c =
    let item = c.args.item in
    let pointer = pointer_of item.parents in
    let last = line (codes "</type>" ∷ []) in
    c.in_ok-push_str.ensures.bytes ∙ ap (λ (t : List ℕ). t ++ last) (c.in_ok-put_pointer.ensures ∙ ap (λ (t : List ℕ). t ++ pointer) c.in_ok-write.ensures.bytes)
    ∙ spliced (string_bytes c.args.text.now) (codes "<type category=\"struct\" name=\"VkGen") (decimal item.number) (codes "\"><member><type>int</type> <name>a</name></member>") pointer last
