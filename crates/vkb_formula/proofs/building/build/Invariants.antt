use Rattle.std.proofs.Common.{◌≡◌, ◌≤◌, take, fold}
use Rattle.vkb_formula.specs.Building.{nothing_built, with_byte, built_so_far}
use Rattle.vkb_formula.proofs.building.build.Given as goal

abbrev pub invariant-loop-at : goal.invariant-loop-at
invariant-loop-at l = record {
  from : l.building.from ≤ l.at;
  built : built_so_far l.text l.at l.building ≡ fold (with_byte l.options) nothing_built (take l.at l.text);
}
