use Rattle.std.proofs.Common.{take, All}
use Rattle.sat_core.specs.Trails.{lits_of}
use Rattle.sat_core.specs.Walking.{IsBlocked}
use Rattle.sat_core.proofs.propagation.free_among.Given as goal

-- all literals so far are one of the two, or false
abbrev pub invariant-loop-literal : goal.invariant-loop-literal
invariant-loop-literal l = All (IsBlocked (lits_of l.trail.entries) l.lit l.other) (take l.literal-index l.part)
