use Rattle.std.proofs.Common.{◌≡◌, false, take}
use Rattle.std.specs.List.{list_any}
use Rattle.hdr_writer.specs.Values.{is_active_at}
use Rattle.hdr_writer.proofs.values.any_active.Given as goal

abbrev pub invariant-loop-place : goal.invariant-loop-place
invariant-loop-place l = list_any (is_active_at l.active) (take l.place-index l.places) ≡ false
