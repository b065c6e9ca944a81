use Rattle.std.proofs.Common.{◌≡◌, take, Some}
use Rattle.vkb_formula.specs.Marks.{run, start}
use Rattle.vkb_formula.proofs.mark.stop_of.Given as goal

abbrev pub invariant-loop-at : goal.invariant-loop-at
invariant-loop-at l = run start (take l.at l.text) ≡ Some l.mark
