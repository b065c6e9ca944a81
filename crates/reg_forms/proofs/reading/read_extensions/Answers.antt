use Rattle.std.specs.Prelude.{codes}
use Rattle.reg_forms.specs.Enums.{is_held}
use Rattle.reg_forms.specs.Attributes.{is_named}
use Rattle.reg_forms.specs.Options.{extension_items}
use Rattle.std.proofs.Common.{sym, ◌∙◌}
use Rattle.reg_forms.proofs.ItemLemmas.{put_counted}
use Rattle.reg_forms.proofs.reading.read_extensions.Goals as goal

pub loop-next-preserved : goal.loop-next-preserved
loop-next-preserved c =
    put_counted (extension_items c.args.api.now (is_held c.args.enum_types.now)) (is_named (codes "extension")) c.loop-next.draft c.read_extension.new.draft _ c.in-Some.next c.loop-next.children c.next.new.self
    c.in-Some.ensures.first (sym c.is_named.ensures ∙ c.if-not-is_named.false) c.in_ok-read_extension.ensures c.loop-next.invariant
