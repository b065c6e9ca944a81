use Rattle.std.proofs.Common.{◌≡◌, ◌++◌, drop, None}
use Rattle.vkb_formula.specs.Building.{runs_of}
use Rattle.vkb_formula.proofs.depends.name_places.Given as goal

abbrev pub invariant-loop-at : goal.invariant-loop-at
invariant-loop-at l = l.places.items ++ runs_of l.at l.from (drop l.at l.text) ≡ runs_of 0 None l.text
