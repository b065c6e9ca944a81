use Rattle.std.proofs.Common.{◌≡◌, ℕ, ◌*◌, false, arith, slice_index_or}
use Rattle.sat_proof.proofs.TrailLemmas.{none-replicate, IsTrail-clear}
use Rattle.sat_proof.proofs.trail.Trail.new.Goals as goal

pub invariant_of-result : goal.invariant_of-result
invariant_of-result c =
    let none : (k : ℕ) → slice_index_or c.in_ok-vec.field-0.items k false ≡ false =
    λ k. rw (c.in_ok-vec.ensures.items_if_clones_equal (λ y e. e)) (none-replicate (2 * c.args.vars) k) in
    rw c.in_ok-with_capacity.ensures.items
    (IsTrail-clear c.in_ok-vec.field-0.items _ none (omega (arith, c.in_ok-with_capacity.ensures.capacity, c.in_ok-vec.ensures.len)))
