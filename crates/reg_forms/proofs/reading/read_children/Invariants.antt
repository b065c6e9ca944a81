use Rattle.std.proofs.Common.{◌≡◌, [], length}
use Rattle.reg_forms.specs.Enums.{is_held}
use Rattle.reg_reader.specs.Views.{elements_in}
use Rattle.reg_forms.specs.Forms.{children_items, with_items}
use Rattle.reg_forms.proofs.reading.read_children.Given as goal

-- what is ahead, put behind what is there, is all
abbrev pub invariant-loop-next : goal.invariant-loop-next
invariant-loop-next l =
    with_items l.draft (children_items l.api (is_held l.enum_types) l.versions.items l.children)
    ≡ with_items l.fn.draft (children_items l.api (is_held l.enum_types) [] (elements_in l.root.content))

abbrev pub decreases-loop-next : goal.decreases-loop-next
decreases-loop-next l = length l.children
