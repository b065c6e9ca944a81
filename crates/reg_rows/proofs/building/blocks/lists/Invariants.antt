use Rattle.std.proofs.Common.{length, map, take}
use Rattle.reg_rows.proofs.BlockLemmas.{IsListing}
use Rattle.reg_rows.proofs.building.blocks.lists.Given as goal

abbrev pub invariant-loop-entry : goal.invariant-loop-entry
invariant-loop-entry l =
    IsListing l.names (length l.forms.blocks) (take l.entry-index l.forms.entries) (map (λ list. list.items) l.lists.items) l.listed_by.items
