use Rattle.std.proofs.Common.{◌≡◌, take}
use Rattle.reg_registry.proofs.tests.bare_options.held.Given as goal

-- the names so far
abbrev pub invariant-loop-place : goal.invariant-loop-place
invariant-loop-place l = l.names.items ≡ take l.place l.table
