use Rattle.std.proofs.Common.{◌≡◌, ◌<◌, List, ◌++◌, length, All}
use Rattle.sat_core.specs.declared.entry.Entry.{Entry}
use Rattle.sat_core.proofs.trail.Trail.undo.Given as goal

-- what was taken away stood under later decisions
abbrev pub invariant-loop-self : goal.invariant-loop-self
invariant-loop-self l = record {
  vars : l.self.vars ≡ l.initial.self.vars;
  first : (more : List Entry) × (l.initial.self.entries ≡ l.self.entries ++ more) × All (λ entry. l.decisions < entry.decision) more;
}

abbrev pub decreases-loop-self : goal.decreases-loop-self
decreases-loop-self l = length l.self.entries
