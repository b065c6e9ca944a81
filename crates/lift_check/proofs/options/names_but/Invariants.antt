use Rattle.std.proofs.Common.{◌≡◌, ◌≤◌, length, take}
use Rattle.lift_check.specs.Options.{free_among}
use Rattle.lift_check.proofs.options.names_but.Given as goal

-- the names so far that aren't always set
abbrev pub invariant-loop-id : goal.invariant-loop-id
invariant-loop-id l = record {
  kept : l.free.items ≡ free_among l.fixed (take l.id l.names);
  few : length l.free.items ≤ l.id;
}
