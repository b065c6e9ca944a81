use Rattle.std.proofs.Common.{arith}
use Rattle.sat_proof.proofs.TrailLemmas.{put-room, IsTrail-put}
use Rattle.sat_proof.proofs.trail.Trail.put.Goals as goal

pub push_reserved-requires : goal.push_reserved-requires
push_reserved-requires c =
    omega (
      arith,
      put-room c.self.inside.marks.items c.self.inside.known.items _ c.self.invariant c.args.lit (rw (← c.self.view_is) at c.requires.within) (rw (← c.self.view_is) at c.requires.fresh),
    )

pub invariant_of-self : goal.invariant_of-self
invariant_of-self c =
    rw (c.push_reserved.ensures.items, c.push_reserved.ensures.capacity) (
    IsTrail-put c.self.inside.marks.items c.self.inside.known.items _ c.self.invariant c.args.lit (rw (← c.self.view_is) at c.requires.within) (rw (← c.self.view_is) at c.requires.fresh)
    )
