use Rattle.std.proofs.Common.{List, ℕ, [], ◌∷◌, ◌++◌, codes, decimal, ap, ◌∙◌, string_bytes}
use Rattle.vkb_gen.specs.Lines.{line}
use Rattle.vkb_gen.specs.Registry.{depends_of, extension_line}
use Rattle.vkb_gen.proofs.JoiningLemmas.{spliced_more}
use Rattle.vkb_gen.proofs.registry.put_extension.Goals as goal

pub returns : goal.returns
unfolding extension_line
returns c =
    let item = c.args.item in
    let number = decimal item.number in
    let depends = depends_of item.parents in
    let near = codes "\"><require><type name=\"VkGen" in
    let last = line (codes "\"/></require></extension>" ∷ []) in
    c.in_ok-writeln.ensures.bytes ∙ ap (λ (t : List ℕ). t ++ (near ++ (number ++ last))) (c.in_ok-put_depends.ensures ∙ ap (λ (t : List ℕ). t ++ depends) c.in_ok-write.ensures.bytes)
    ∙ spliced_more (string_bytes c.args.text.now) (codes "<extension name=\"VK_GEN_e") number (codes "\" number=\"") number (codes "\" supported=\"vulkan\" depends=\"") depends near number last
