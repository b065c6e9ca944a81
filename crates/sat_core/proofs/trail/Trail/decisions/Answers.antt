use Rattle.std.proofs.Common.{sym}
use Rattle.sat_core.proofs.TrailLemmas.{last-decision_at}
use Rattle.sat_core.proofs.trail.Trail.decisions.Goals as goal

pub returns-in-Some : goal.returns-in-Some
returns-in-Some c =
    rw (← c.self.view_is) (
    last-decision_at c.self.inside.vars c.self.inside.entries.items c.self.invariant.in_order c.in-Some.entry.now (sym (rw c.deref.ensures.value at c.in-Some.ensures.value))
    )
