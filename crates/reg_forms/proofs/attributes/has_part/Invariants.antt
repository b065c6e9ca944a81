use Rattle.std.proofs.Common.{◌≡◌, [], length}
use Rattle.std.specs.List.{list_any}
use Rattle.std.specs.Option.{option_map_or}
use Rattle.std.specs.Str.{bytes_eq}
use Rattle.reg_forms.specs.Attributes.{parts_of}
use Rattle.reg_forms.proofs.attributes.has_part.Given as goal

-- no part so far is this one
abbrev pub invariant-loop-rest : goal.invariant-loop-rest
invariant-loop-rest l =
    list_any (bytes_eq l.part) (option_map_or (λ rest. parts_of rest.now) l.rest []) ≡ list_any (bytes_eq l.part) (parts_of l.text)

abbrev pub decreases-loop-rest : goal.decreases-loop-rest
decreases-loop-rest l = length (option_map_or (λ rest. parts_of rest.now) l.rest [])
