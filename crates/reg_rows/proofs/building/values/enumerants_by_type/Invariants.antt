use Rattle.std.proofs.Common.{map, take}
use Rattle.reg_rows.specs.Listing.{AreByType}
use Rattle.reg_rows.proofs.building.values.enumerants_by_type.Given as goal

abbrev pub invariant-loop-place : goal.invariant-loop-place
invariant-loop-place l = AreByType l.tables 0 (take l.place l.tables.enumerants) (map (λ list. list.items) l.by_type.items)
