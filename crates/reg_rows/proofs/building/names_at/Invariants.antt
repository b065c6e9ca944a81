use Rattle.std.proofs.Common.{◌≡◌, Some, map, slice_get, take}
use Rattle.reg_rows.proofs.building.names_at.Given as goal

abbrev pub invariant-loop-place : goal.invariant-loop-place
invariant-loop-place l = map Some l.found.items ≡ map (slice_get l.names) (take l.place-index l.places)
