use Rattle.sat_core.proofs.TrailLemmas.{entries-few}
use Rattle.sat_core.proofs.trail.Trail.entries.Goals as goal

pub returns-clause-few : goal.returns-clause-few
returns-clause-few c = rw (c.as_slice.ensures.value, ← c.self.view_is) (entries-few c.self.inside.vars c.self.inside.entries.items c.self.invariant.in_order)

pub returns-clause-in_order : goal.returns-clause-in_order
returns-clause-in_order c = rw (← c.self.view_is) c.self.invariant.in_order
