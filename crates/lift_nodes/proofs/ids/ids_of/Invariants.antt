use Rattle.std.proofs.Common.{◌≡◌, ◌∷◌, map, take}
use Rattle.doc_tree.specs.Names.{each_once}
use Rattle.lift_nodes.proofs.ids.ids_of.Given as goal

-- the ids of the givers so far
abbrev pub invariant-loop-giver : goal.invariant-loop-giver
invariant-loop-giver l = l.ids.items ≡ each_once (l.start ∷ map (λ giver. giver.id) (take l.giver-index l.givers))
