use Rattle.std.proofs.Common.{◌≤◌, length}
use Rattle.sat_proof.specs.Refutations.{held_with}
use Rattle.sat_core.specs.Analysing.{IsAnalysed}
use Rattle.sat_core.proofs.conflict.learn_from.Given as goal

-- the entries from the place on were looked at
abbrev pub invariant-loop-analysis : goal.invariant-loop-analysis
invariant-loop-analysis l = record {
  within : l.place ≤ length l.trail.entries;
  analysed : IsAnalysed (held_with l.clauses.list l.steps) l.trail.entries l.place l.analysis;
}

abbrev pub decreases-loop-analysis : goal.decreases-loop-analysis
decreases-loop-analysis l = l.place
