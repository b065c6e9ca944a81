use Rattle.std.proofs.Common.{◌≡◌, drop}
use Rattle.vkb_outside.specs.Held.{held, names_differ}
use Rattle.vkb_outside.proofs.held.names_differ.Given as goal

abbrev pub invariant-loop-place : goal.invariant-loop-place
invariant-loop-place l = names_differ (held (drop l.place l.files)) ≡ names_differ (held l.files)
