use Rattle.std.proofs.Common.{take}
use Rattle.vu_implicit.specs.Lengths.{HasLengths}
use Rattle.vu_implicit.proofs.lengths.lengths_of.Given as goal

-- the lengths so far are in
abbrev pub invariant-loop-m : goal.invariant-loop-m
invariant-loop-m l = HasLengths (take l.m-index l.members) l.lengths
