use Rattle.std.proofs.Common.{◌≡◌, drop, slice_index_or, false}
use Rattle.std.specs.List.{list_any}
use Rattle.vkb_formula.proofs.pool.any_is_true.Given as goal

-- the parts so far are false
abbrev pub invariant-loop-part : goal.invariant-loop-part
invariant-loop-part l =
    list_any (λ part. slice_index_or l.values part.0 false) (drop l.part-index l.parts) ≡ list_any (λ part. slice_index_or l.values part.0 false) l.parts
