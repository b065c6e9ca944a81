use Rattle.std.proofs.Common.{◌≡◌, ◌||◌, ℕ, Bool, Some, length, slice_get, take}
use Rattle.reg_closure.specs.Closure.{has_name}
use Rattle.reg_closure.proofs.closing.add_all.Given as goal

abbrev pub invariant-loop-id : goal.invariant-loop-id
invariant-loop-id l = record {
  count : length l.set ≡ length l.fn.set;
  each : (place : ℕ) (was : Bool) → slice_get l.fn.set place ≡ Some was → slice_get l.set place ≡ Some (was || has_name (take l.id-index l.ids) place);
}
