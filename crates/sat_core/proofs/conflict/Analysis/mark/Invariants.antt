use Rattle.std.proofs.Common.{take}
use Rattle.sat_core.specs.Analysing.{Marks}
use Rattle.sat_core.proofs.conflict.Analysis.mark.Given as goal

-- those of the literals so far are marked
abbrev pub invariant-loop-lit : goal.invariant-loop-lit
invariant-loop-lit l = Marks l.trail.entries (take l.lit-index l.clause) l.but l.initial.self l.self
