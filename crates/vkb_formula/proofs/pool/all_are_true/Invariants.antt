use Rattle.std.proofs.Common.{◌≡◌, drop, slice_index_or, false}
use Rattle.std.specs.List.{list_all}
use Rattle.vkb_formula.proofs.pool.all_are_true.Given as goal

-- the parts so far are true
abbrev pub invariant-loop-part : goal.invariant-loop-part
invariant-loop-part l =
    list_all (λ part. slice_index_or l.values part.0 false) (drop l.part-index l.parts) ≡ list_all (λ part. slice_index_or l.values part.0 false) l.parts
