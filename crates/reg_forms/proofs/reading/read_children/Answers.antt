use Rattle.std.proofs.Common.{ap, sym, ◌∙◌}
use Rattle.std.specs.Prelude.{◌++◌}
use Rattle.reg_forms.specs.Enums.{is_held}
use Rattle.reg_forms.specs.Forms.{child_items, children_items, with_items}
use Rattle.reg_forms.proofs.ItemLemmas.{put_step}
use Rattle.reg_forms.proofs.reading.read_children.Goals as goal

pub loop-next-preserved : goal.loop-next-preserved
loop-next-preserved c =
    let is_enum = is_held c.args.enum_types.now in
    let said = child_items c.args.api.now is_enum c.loop-next.versions.items c.in-Some.next in
    put_step c.loop-next.draft c.read_child.new.draft _ said (children_items c.args.api.now is_enum c.put_version.new.versions.items c.next.new.self) _
    (ap (children_items c.args.api.now is_enum c.loop-next.versions.items) c.in-Some.ensures.first
    ∙ ap (λ versions. said ++ children_items c.args.api.now is_enum versions c.next.new.self) (sym c.in_ok-put_version.ensures))
    (c.in_ok-read_child.ensures ∙ ap (λ versions. with_items c.loop-next.draft (child_items c.args.api.now is_enum versions c.in-Some.next)) c.as_slice.ensures.value)
    c.loop-next.invariant
