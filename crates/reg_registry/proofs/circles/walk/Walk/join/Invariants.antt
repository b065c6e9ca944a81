use Rattle.std.proofs.Common.{◌≡◌, ◌≤◌, ℕ, length, slice_get, Some}
use Rattle.reg_registry.specs.Walks.{IsAhead, IsWalk, steps_of}
use Rattle.reg_registry.specs.declared.circles.walk.Mark.TheVariants.{OnPath}
use Rattle.reg_registry.proofs.circles.walk.Walk.join.Given as goal

abbrev pub invariant-loop-self : goal.invariant-loop-self
invariant-loop-self l = record {
  walk : IsWalk l.rows l.self;
  ahead : (name : ℕ) × IsAhead l.self name × (slice_get l.self.marks name ≡ Some (OnPath l.place));
  no_more : steps_of l.rows l.self ≤ steps_of l.rows l.initial.self;
}

abbrev pub decreases-loop-self : goal.decreases-loop-self
decreases-loop-self l = length l.self.groups
