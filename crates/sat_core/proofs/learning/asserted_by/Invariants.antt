use Rattle.sat_core.proofs.LearnLemmas.{IsRead}
use Rattle.sat_core.proofs.learning.asserted_by.Given as goal

abbrev pub invariant-loop-literal : goal.invariant-loop-literal
invariant-loop-literal l = IsRead l.trail.entries l.clause l.last l.literal-index l.lit l.other
