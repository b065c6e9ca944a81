use Rattle.std.proofs.Common.{map, take}
use Rattle.reg_tables.specs.Counts.{IsCounted}
use Rattle.reg_tables.proofs.limits.put_declared.Given as goal

abbrev pub invariant-loop-declaration : goal.invariant-loop-declaration
invariant-loop-declaration l = IsCounted (map (λ d. (d.place, d.name)) (take l.declaration-index l.declarations)) l.counted.names l.counted.past
