use Rattle.std.proofs.Common.{◌≡◌, filter, length}
use Rattle.std.specs.List.{flat_map}
use Rattle.reg_reader.specs.Views.{elements_in}
use Rattle.reg_forms.specs.Enums.{is_held}
use Rattle.std.specs.Prelude.{codes}
use Rattle.reg_forms.specs.Attributes.{is_named}
use Rattle.reg_forms.specs.Options.{extension_items}
use Rattle.reg_forms.specs.Forms.{with_items}
use Rattle.reg_forms.proofs.reading.read_extensions.Given as goal

-- what is ahead, put behind what is there, is all
abbrev pub invariant-loop-next : goal.invariant-loop-next
invariant-loop-next l =
    with_items l.draft (flat_map (extension_items l.api (is_held l.enum_types)) (filter (is_named (codes "extension")) l.children))
    ≡ with_items l.fn.draft (flat_map (extension_items l.api (is_held l.enum_types)) (filter (is_named (codes "extension")) (elements_in l.element.content)))

abbrev pub decreases-loop-next : goal.decreases-loop-next
decreases-loop-next l = length l.children
