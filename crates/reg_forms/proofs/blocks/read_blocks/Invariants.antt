use Rattle.std.proofs.Common.{◌≡◌, length}
use Rattle.std.specs.List.{flat_map}
use Rattle.reg_reader.specs.Views.{elements_in}
use Rattle.reg_forms.specs.Enums.{is_held}
use Rattle.reg_forms.specs.Options.{block_items}
use Rattle.reg_forms.specs.Forms.{with_items}
use Rattle.reg_forms.proofs.blocks.read_blocks.Given as goal

-- what is ahead, put behind what is there, is all
abbrev pub invariant-loop-next : goal.invariant-loop-next
invariant-loop-next l =
    with_items l.draft (flat_map (block_items l.api (is_held l.enum_types) l.number) l.children)
    ≡ with_items l.fn.draft (flat_map (block_items l.api (is_held l.enum_types) l.number) (elements_in l.element.content))

abbrev pub decreases-loop-next : goal.decreases-loop-next
decreases-loop-next l = length l.children
