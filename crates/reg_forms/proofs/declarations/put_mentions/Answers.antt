use Rattle.reg_forms.specs.Items.{Item}
use Rattle.reg_forms.proofs.ItemLemmas.{put_mapped}
use Rattle.reg_forms.proofs.declarations.put_mentions.Goals as goal

pub loop-mention-preserved : goal.loop-mention-preserved
loop-mention-preserved c =
    put_mapped Item.mentions c.args.draft.now c.loop-mention.draft _ c.loop-mention.yielded c.in-Some.mention c.loop-mention.invariant c.in_ok-put_mention.ensures
