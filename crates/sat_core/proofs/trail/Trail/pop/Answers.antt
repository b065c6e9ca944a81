use Rattle.std.proofs.Common.{◌≡◌, ◌∷◌, ◌++◌, [], sym, ap, subst, ◌∙◌, vec_capacity}
use Rattle.sat_core.specs.Assigning.{AreInOrder, IsKept}
use Rattle.sat_core.specs.Trails.{decisions_of}
use Rattle.sat_core.proofs.AssigningLemmas.{IsKept-pop}
use Rattle.sat_core.proofs.TrailLemmas.{last-decision}
use Rattle.sat_core.proofs.trail.Trail.pop.Goals as goal

pub invariant_of-self : goal.invariant_of-self
invariant_of-self c =
    rw (c.negation.ensures, c.pop.ensures.capacity) (
    IsKept-pop c.self.inside.vars c.self.inside.values.items c.self.inside.places.items c.pop.new.self.items c.in-Some.entry _ (subst (λ es. IsKept c.self.inside.vars c.self.inside.values.items c.self.inside.places.items es (vec_capacity c.self.inside.entries)) c.in-Some.ensures.items c.self.invariant)
    )

pub returns-in-Some-clause-last : goal.returns-in-Some-clause-last
returns-in-Some-clause-last c =
    let all : c.self.inside.entries.items ≡ c.pop.new.self.items ++ c.in-Some.entry ∷ [] = c.in-Some.ensures.items in
    rw (← c.self.view_is) (
      c.in-Some.entry,
      all,
      last-decision c.self.inside.vars c.pop.new.self.items c.in-Some.entry (subst (AreInOrder c.self.inside.vars) all c.self.invariant.in_order) ∙ ap decisions_of (sym all),
    )
