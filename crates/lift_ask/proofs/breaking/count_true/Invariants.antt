use Rattle.std.proofs.Common.{◌≡◌, take}
use Rattle.std.specs.Prelude.{count_by}
use Rattle.lift_ask.specs.Telling.{is_on}
use Rattle.lift_ask.proofs.breaking.count_true.Given as goal

-- so many of the first nodes are true
abbrev pub invariant-loop-node : goal.invariant-loop-node
invariant-loop-node l = l.count ≡ count_by (is_on l.values) (take l.node-index l.nodes)
