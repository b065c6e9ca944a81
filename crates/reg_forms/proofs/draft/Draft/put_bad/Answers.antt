use Rattle.reg_forms.specs.Items.{Item}
use Rattle.reg_forms.specs.declared.forms.RowCode.TheVariants.{BadAttribute}
use Rattle.reg_forms.proofs.ItemLemmas.{put_mapped}
use Rattle.reg_forms.proofs.draft.Draft.put_bad.Goals as goal

pub loop-word-preserved : goal.loop-word-preserved
loop-word-preserved c =
    put_mapped (λ word. Item.wrong (record { code = BadAttribute; at = c.args.place; word = word })) c.args.self.now c.loop-word.self
    c.put_fault.new.self c.loop-word.yielded c.in-Some.word c.loop-word.invariant c.in_ok-put_fault.ensures
