use Rattle.std.proofs.Common.{◌≡◌, drop}
use Rattle.reg_reader.specs.Views.{value_in}
use Rattle.reg_reader.specs.Shown.{attributes_of}
use Rattle.reg_reader.proofs.view.value_part.Given as goal

-- no attribute so far has the name
abbrev pub invariant-loop-attribute : goal.invariant-loop-attribute
invariant-loop-attribute l =
    value_in (attributes_of l.bytes (drop l.attribute-index l.attributes)) l.name ≡ value_in (attributes_of l.bytes l.attributes) l.name
