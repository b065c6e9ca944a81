use Rattle.std.proofs.Common.{◌≡◌, ◌++◌, filter, length, map}
use Rattle.std.specs.Prelude.{codes}
use Rattle.reg_forms.specs.Attributes.{children, is_named}
use Rattle.reg_forms.specs.Parts.{mention_of}
use Rattle.reg_forms.specs.declared.forms.Sort.TheVariants as sort
use Rattle.reg_forms.proofs.parts.mention_bounds.Given as goal

-- what is there, and what the children ahead mention, is all
abbrev pub invariant-loop-next : goal.invariant-loop-next
invariant-loop-next l =
    l.mentions.items ++ map (mention_of sort.Constant) (filter (is_named (codes "enum")) l.children)
    ≡ l.fn.mentions.items ++ map (mention_of sort.Constant) (children (codes "enum") l.element)

abbrev pub decreases-loop-next : goal.decreases-loop-next
decreases-loop-next l = length l.children
