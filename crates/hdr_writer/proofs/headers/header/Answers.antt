use Rattle.std.proofs.Common.{◌≡◌, ◌∙◌, ◌++◌, not, List, Bool, filter, flat_map, ap}
use Rattle.hdr_writer.specs.Declarations.{declaration_with}
use Rattle.hdr_writer.specs.Headers.{defines, is_command}
use Rattle.hdr_writer.specs.Values.{active_blocks}
use Rattle.hdr_writer.proofs.TextLemmas.{texts-joined}
use Rattle.hdr_writer.proofs.headers.header.Goals as goal

pub returns : goal.returns
returns c =
    let r = c.args.r.now in
    let order = c.args.order.now in
    let active : c.in_ok-active.active.items ≡ active_blocks r.blocks c.args.c.now.chosen.items =
    c.in_ok-active.ensures ∙ ap (active_blocks r.blocks) c.as_slice.ensures.value in
    c.from_vec.ensures ∙ texts-joined c.new-text.result.items c.put_prologue.new.text.items c.put_defines.new.text.items c.put_types.new.text.items
    c.put_commands.new.text.items c.put_line.new.text.items _ _ _ _ _
    c.new-text.ensures.items c.in_ok-put_prologue.ensures
    (c.in_ok-put_defines.ensures ∙ ap (λ (chosen : List Bool). c.put_prologue.new.text.items ++ defines r chosen) c.as_slice-2.ensures.value)
    (c.in_ok-put_types.ensures
    ∙ ap (λ (blocks : List Bool). c.put_defines.new.text.items ++ flat_map (declaration_with r blocks) (filter (λ id. not (is_command r id)) order)) (c.as_slice-3.ensures.value ∙ active))
    (c.in_ok-put_commands.ensures (active_blocks r.blocks c.args.c.now.chosen.items))
    c.in_ok-put_line.ensures
