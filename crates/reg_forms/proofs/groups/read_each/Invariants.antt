use Rattle.std.proofs.Common.{◌≡◌, filter, length}
use Rattle.std.specs.List.{flat_map}
use Rattle.reg_reader.specs.Views.{elements_in}
use Rattle.reg_forms.specs.Enums.{is_held}
use Rattle.std.specs.Prelude.{codes}
use Rattle.reg_forms.specs.Attributes.{is_named}
use Rattle.reg_forms.specs.Enums.{grouped_items}
use Rattle.reg_forms.specs.Forms.{with_items}
use Rattle.reg_forms.proofs.groups.read_each.Given as goal

-- what is ahead, put behind what is there, is all
abbrev pub invariant-loop-next : goal.invariant-loop-next
invariant-loop-next l =
    with_items l.draft (flat_map (grouped_items l.api (is_held l.enum_types) l.role) (filter (is_named (codes "enum")) l.children))
    ≡ with_items l.fn.draft (flat_map (grouped_items l.api (is_held l.enum_types) l.role) (filter (is_named (codes "enum")) (elements_in l.element.content)))

abbrev pub decreases-loop-next : goal.decreases-loop-next
decreases-loop-next l = length l.children
