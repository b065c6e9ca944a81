use Rattle.std.proofs.Common.{◌++◌, List, filter, is_some, map, take}
use Rattle.reg_tables.specs.Bits.{Atom}
use Rattle.reg_tables.specs.Counts.{IsCounted}
use Rattle.reg_tables.proofs.limits.count_features.Given as goal

abbrev pub invariant-loop-option : goal.invariant-loop-option
invariant-loop-option l =
    (named : List Atom) → IsCounted named l.initial.counted.names l.initial.counted.past
    → IsCounted (named ++ map (λ o. (o.place, o.name)) (filter (λ o. is_some o.version) (take l.option-index l.options))) l.counted.names l.counted.past
