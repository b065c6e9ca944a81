use Rattle.reg_forms.specs.Enums.{is_held}
use Rattle.reg_forms.specs.Options.{required_items}
use Rattle.reg_forms.proofs.ItemLemmas.{put_each}
use Rattle.reg_forms.proofs.blocks.read_required.Goals as goal

pub loop-next-preserved : goal.loop-next-preserved
loop-next-preserved c =
    put_each (required_items c.args.api.now (is_held c.args.enum_types.now) c.args.number) c.loop-next.draft c.read_one_required.new.draft _ c.in-Some.next c.loop-next.children c.next.new.self
    c.in-Some.ensures.first c.in_ok-read_one_required.ensures c.loop-next.invariant
