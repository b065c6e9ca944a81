use Rattle.std.proofs.Common.{map, take}
use Rattle.reg_rows.specs.Listing.{AreLists}
use Rattle.reg_rows.proofs.building.uses.block_lists.Given as goal

abbrev pub invariant-loop-entry : goal.invariant-loop-entry
invariant-loop-entry l = AreLists l.tables l.adds (take l.entry-index l.tables.entries) (map (λ list. list.items) l.lists.items)
