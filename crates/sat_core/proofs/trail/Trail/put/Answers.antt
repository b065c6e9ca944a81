use Rattle.std.proofs.Common.{◌≡◌, length, arith}
use Rattle.sat_core.proofs.AssigningLemmas.{IsKept-put, room-put}
use Rattle.sat_core.proofs.trail.Trail.put.Goals as goal

pub push_reserved-requires : goal.push_reserved-requires
push_reserved-requires c =
    omega (
      arith,
      room-put c.self.inside.vars c.self.inside.values.items c.self.inside.places.items c.self.inside.entries.items _ c.self.invariant c.args.entry (record {
        within = rw (← c.self.view_is) at c.requires.within;
        undecided = rw (← c.self.view_is) at c.requires.undecided;
        decision = rw (← c.self.view_is) at c.requires.decision;
      }),
    )

pub invariant_of-self : goal.invariant_of-self
invariant_of-self c =
    let len : c.len.result ≡ length c.self.inside.entries.items = omega (arith, c.len.ensures) in
    rw (c.push_reserved.ensures.items, c.push_reserved.ensures.capacity, c.negation.ensures, c.variable.ensures, len) (
    IsKept-put c.self.inside.vars c.self.inside.values.items c.self.inside.places.items c.self.inside.entries.items _ c.self.invariant c.args.entry (record {
      within = rw (← c.self.view_is) at c.requires.within;
      undecided = rw (← c.self.view_is) at c.requires.undecided;
      decision = rw (← c.self.view_is) at c.requires.decision;
    }))
