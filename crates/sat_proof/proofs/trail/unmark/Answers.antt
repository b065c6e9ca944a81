use Rattle.std.proofs.Common.{arith}
use Rattle.sat_proof.proofs.TrailLemmas.{none-marked}
use Rattle.sat_proof.proofs.trail.unmark.Goals as goal

pub returns-clause-marks : goal.returns-clause-marks
returns-clause-marks c = none-marked c.loop-lit.marks.items c.loop-lit.known.items (omega (arith, c.in_default.ensures.cases)) c.loop-lit.invariant.marked
