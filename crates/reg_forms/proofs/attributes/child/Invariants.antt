use Rattle.std.proofs.Common.{◌≡◌, length}
use Rattle.std.specs.List.{find}
use Rattle.reg_reader.specs.Views.{elements_in}
use Rattle.reg_forms.specs.Attributes.{is_named}
use Rattle.reg_forms.proofs.attributes.child.Given as goal

-- no child so far has the name
abbrev pub invariant-loop-next : goal.invariant-loop-next
invariant-loop-next l = find (is_named l.name) l.children ≡ find (is_named l.name) (elements_in l.element.content)

abbrev pub decreases-loop-next : goal.decreases-loop-next
decreases-loop-next l = length l.children
