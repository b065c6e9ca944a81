use Rattle.std.proofs.Common.{◌≡◌, ◌++◌, map, take}
use Rattle.reg_registry.proofs.circles.walk.put_ahead.Given as goal

abbrev pub invariant-loop-id : goal.invariant-loop-id
invariant-loop-id l = l.ahead.items ≡ l.initial.ahead.items ++ map (λ id. id.0) (take l.id-index l.id-items)
