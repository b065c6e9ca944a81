use Rattle.std.proofs.Common.{take}
use Rattle.reg_rows.specs.Listing.{AreAlways}
use Rattle.reg_rows.proofs.building.uses.always_there.Given as goal

abbrev pub invariant-loop-row : goal.invariant-loop-row
invariant-loop-row l = AreAlways l.tables (take l.row-index l.rows) l.always.items
