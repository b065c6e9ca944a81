use Rattle.std.proofs.Common.{List, ℕ, ◌++◌, ap, ◌∙◌}
use Rattle.std.specs.List.{flat_map}
use Rattle.vkb_gen.specs.Registry.{extension_line, first_lines, last_lines, middle_lines, struct_line}
use Rattle.vkb_gen.proofs.registry.registry_text.Goals as goal

pub returns : goal.returns
unfolding first_lines middle_lines last_lines
returns c =
    let items = c.args.items.now in
    let structs = flat_map struct_line items in
    let extensions = flat_map extension_line items in
    let first = c.in_ok-push_str.ensures.bytes ∙ ap (λ (t : List ℕ). t ++ first_lines) c.new-text.ensures.bytes in
    let second = c.in_ok-put_structs.ensures ∙ ap (λ (t : List ℕ). t ++ structs) first in
    let third = c.in_ok-push_str-2.ensures.bytes ∙ ap (λ (t : List ℕ). t ++ middle_lines) second in
    let fourth = c.in_ok-put_extensions.ensures ∙ ap (λ (t : List ℕ). t ++ extensions) third in
    let fifth = c.in_ok-push_str-3.ensures.bytes ∙ ap (λ (t : List ℕ). t ++ last_lines) fourth in
    c.from_vec.ensures ∙ ap (λ v. v.items) c.into_bytes.ensures.value ∙ fifth
