use Rattle.std.proofs.Common.{◌≡◌, ◌+◌, length}
use Rattle.lift_check.specs.Nodes.{HoldsOptions}
use Rattle.lift_check.proofs.conditions.option_nodes.Given as goal

abbrev pub invariant-loop-option : goal.invariant-loop-option
invariant-loop-option l = HoldsOptions l.option l.pool × (length l.pool ≡ l.option + 2)
