use Rattle.std.proofs.Common.{arith}
use Rattle.std.proofs.lemmas.List.Elements.{All-contains_itself}
use Rattle.sat_proof.proofs.TrailLemmas.{marked-within, IsTrail-clear}
use Rattle.sat_proof.proofs.trail.Trail.clear.Goals as goal

pub unmark-requires-clause-within : goal.unmark-requires-clause-within
unmark-requires-clause-within c k d within =
    marked-within c.self.inside.marks.items c.self.inside.known.items _ c.self.invariant _ (All-contains_itself c.self.inside.known.items k d within)

pub invariant_of-self : goal.invariant_of-self
invariant_of-self c =
    rw c.unmark.ensures.known (IsTrail-clear c.unmark.new.marks.items _ c.unmark.ensures.marks (omega (arith, c.unmark.ensures.count, c.unmark.ensures.room, c.self.invariant.fits)))
