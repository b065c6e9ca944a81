use Rattle.std.proofs.Common.{◌≡◌, map, take}
use Rattle.lift_check.specs.Keeping.{node_of}
use Rattle.lift_check.proofs.nodes.line_nodes.Given as goal

-- the lines so far have their nodes
abbrev pub invariant-loop-line : goal.invariant-loop-line
invariant-loop-line l = l.nodes.items ≡ map (node_of l.conditions.nodes) (take l.line-index l.lines)
