use Rattle.std.proofs.Common.{◌≡◌, map}
use Rattle.reg_forms.specs.Items.{Item}
use Rattle.reg_forms.specs.Forms.{with_items}
use Rattle.reg_forms.specs.declared.forms.RowCode.TheVariants.{BadAttribute}
use Rattle.reg_forms.proofs.draft.Draft.put_bad.Given as goal

-- the words so far are put in
abbrev pub invariant-loop-word : goal.invariant-loop-word
invariant-loop-word l =
    l.self ≡ with_items l.fn.self (map (λ word. Item.wrong (record { code = BadAttribute; at = l.place; word = word })) l.yielded)
