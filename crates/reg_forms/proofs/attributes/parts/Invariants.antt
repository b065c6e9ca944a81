use Rattle.std.proofs.Common.{◌≡◌, ◌++◌, [], length}
use Rattle.std.specs.Option.{option_map_or}
use Rattle.reg_forms.specs.Attributes.{parts_of}
use Rattle.reg_forms.proofs.attributes.parts.Given as goal

-- the parts so far, and those of what is ahead, are all
abbrev pub invariant-loop-rest : goal.invariant-loop-rest
invariant-loop-rest l = l.parts.items ++ option_map_or (λ rest. parts_of rest.now) l.rest [] ≡ parts_of l.text

abbrev pub decreases-loop-rest : goal.decreases-loop-rest
decreases-loop-rest l = length (option_map_or (λ rest. parts_of rest.now) l.rest [])
