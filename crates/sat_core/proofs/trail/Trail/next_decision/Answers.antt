use Rattle.std.proofs.Common.{sym, arith}
use Rattle.sat_core.proofs.AssigningLemmas.{decisions-fit}
use Rattle.sat_core.proofs.TrailLemmas.{last-decision_at}
use Rattle.sat_core.proofs.trail.Trail.next_decision.Goals as goal

pub overflow_add-result : goal.overflow_add-result
overflow_add-result c =
    omega (
      arith,
      last-decision_at c.self.inside.vars c.self.inside.entries.items c.self.invariant.in_order c.in-Some.entry.now (sym (rw c.deref.ensures.value at c.in-Some.ensures.value)),
      decisions-fit c.self.inside.vars c.self.inside.values.items c.self.inside.places.items c.self.inside.entries.items _ c.self.invariant,
    )

pub returns-in-Some : goal.returns-in-Some
returns-in-Some c =
    rw (← c.self.view_is) (
    omega (arith, last-decision_at c.self.inside.vars c.self.inside.entries.items c.self.invariant.in_order c.in-Some.entry.now (sym (rw c.deref.ensures.value at c.in-Some.ensures.value)))
    )
