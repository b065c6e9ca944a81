use Rattle.std.proofs.Common.{◌≡◌, map, take}
use Rattle.lift_nodes.specs.Giving.{giver_of}
use Rattle.lift_nodes.proofs.ids.givers_of.Given as goal

abbrev pub invariant-loop-source : goal.invariant-loop-source
invariant-loop-source l = l.givers.items ≡ map (giver_of l.written) (take l.source-index l.sources)
