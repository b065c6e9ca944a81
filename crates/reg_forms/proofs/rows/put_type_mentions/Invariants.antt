use Rattle.std.proofs.Common.{◌≡◌, ◌++◌, codes, filter, length, map}
use Rattle.reg_reader.specs.Views.{elements_in}
use Rattle.reg_forms.specs.declared.forms.Sort.TheVariants as sort
use Rattle.reg_forms.specs.Attributes.{is_named}
use Rattle.reg_forms.specs.Parts.{mention_of}
use Rattle.reg_forms.proofs.rows.put_type_mentions.Given as goal

abbrev pub invariant-loop-next : goal.invariant-loop-next
invariant-loop-next l =
    l.mentions.items ++ map (mention_of sort.Type) (filter (is_named (codes "type")) l.ahead)
    ≡ l.initial.mentions.items ++ map (mention_of sort.Type) (filter (is_named (codes "type")) (elements_in l.element.content))

abbrev pub decreases-loop-next : goal.decreases-loop-next
decreases-loop-next l = length l.ahead
