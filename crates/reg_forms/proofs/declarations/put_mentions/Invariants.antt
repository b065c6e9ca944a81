use Rattle.std.proofs.Common.{◌≡◌, map}
use Rattle.reg_forms.specs.Forms.{with_items}
use Rattle.reg_forms.specs.Items.{Item}
use Rattle.reg_forms.proofs.declarations.put_mentions.Given as goal

abbrev pub invariant-loop-mention : goal.invariant-loop-mention
invariant-loop-mention l = l.draft ≡ with_items l.initial.draft (map Item.mentions l.yielded)
