use Rattle.std.proofs.Common.{◌<◌, All, take}
use Rattle.read_registry.proofs.are_below.Given as goal

abbrev pub invariant-loop-id : goal.invariant-loop-id
invariant-loop-id l = All (λ id. id.0 < l.end) (take l.id-index l.ids)
