use Rattle.std.proofs.Common.{take}
use Rattle.vu_implicit.specs.Lengths.{HasNames}
use Rattle.vu_implicit.proofs.lengths.names_of.Given as goal

-- the names so far are in
abbrev pub invariant-loop-m : goal.invariant-loop-m
invariant-loop-m l = HasNames (take l.m-index l.members) l.names
