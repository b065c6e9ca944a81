use Rattle.std.proofs.Common.{◌≡◌, length, map, take}
use Rattle.reg_closure.proofs.ordering.counts.Given as goal

abbrev pub invariant-loop-name : goal.invariant-loop-name
invariant-loop-name l = l.counts.items ≡ map (λ row. length row.named) (take l.name l.r.rows)
