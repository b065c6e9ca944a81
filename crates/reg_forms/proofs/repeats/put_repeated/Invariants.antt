use Rattle.std.proofs.Common.{◌≡◌, drop, []}
use Rattle.reg_forms.specs.Forms.{with_items}
use Rattle.reg_forms.specs.Parts.{repeated}
use Rattle.reg_forms.proofs.repeats.put_repeated.Given as goal

-- what is there, and what is wrong with the members ahead, is all
abbrev pub invariant-loop-member : goal.invariant-loop-member
invariant-loop-member l =
    with_items l.draft (repeated l.seen (drop l.member-index l.members)) ≡ with_items l.fn.draft (repeated [] l.members)
