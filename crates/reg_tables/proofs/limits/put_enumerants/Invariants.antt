use Rattle.std.proofs.Common.{map, take}
use Rattle.reg_tables.specs.Counts.{IsCounted}
use Rattle.reg_tables.proofs.limits.put_enumerants.Given as goal

abbrev pub invariant-loop-enumerant : goal.invariant-loop-enumerant
invariant-loop-enumerant l = IsCounted (map (λ e. (e.place, e.name)) (take l.enumerant-index l.enumerants)) l.counted.names l.counted.past
