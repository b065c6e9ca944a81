use Rattle.std.proofs.Common.{◌≡◌, ◌++◌, map, take}
use Rattle.reg_closure.specs.Made.{node_at}
use Rattle.reg_closure.proofs.nodes.push_nodes.Given as goal

abbrev pub invariant-loop-place : goal.invariant-loop-place
invariant-loop-place l = l.parts.items ≡ l.initial.parts.items ++ map (node_at l.ids) (take l.place-index l.places)
