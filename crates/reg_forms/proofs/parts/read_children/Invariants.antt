use Rattle.std.proofs.Common.{◌≡◌, ◌++◌, filter, length}
use Rattle.reg_reader.specs.Views.{elements_in}
use Rattle.reg_forms.specs.Attributes.{is_named}
use Rattle.reg_forms.specs.Forms.{with_items}
use Rattle.reg_forms.proofs.MemberLemmas.{faults_among, forms_among, mentions_among}
use Rattle.reg_forms.proofs.parts.read_children.Given as goal

-- what is there, and what the children ahead say, is all
abbrev pub invariant-loop-next : goal.invariant-loop-next
invariant-loop-next l =
    (with_items l.draft (faults_among l.api (filter (is_named l.name) l.children))
    ≡ with_items l.fn.draft (faults_among l.api (filter (is_named l.name) (elements_in l.element.content))))
    × (l.members.items ++ forms_among l.api (filter (is_named l.name) l.children)
    ≡ l.fn.members.items ++ forms_among l.api (filter (is_named l.name) (elements_in l.element.content)))
    × (l.mentions.items ++ mentions_among l.api (filter (is_named l.name) l.children)
    ≡ l.fn.mentions.items ++ mentions_among l.api (filter (is_named l.name) (elements_in l.element.content)))

abbrev pub decreases-loop-next : goal.decreases-loop-next
decreases-loop-next l = length l.children
