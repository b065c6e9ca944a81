use Rattle.std.proofs.Common.{◌≡◌, ◌+◌, length, map, take}
use Rattle.reg_tables.specs.Lists.{firsts}
use Rattle.reg_rows.specs.Listing.{AreBefore, AreByType}
use Rattle.reg_rows.specs.Rows.{row_of}
use Rattle.reg_rows.proofs.building.declared.declared_rows.Given as goal

abbrev pub invariant-loop-at : goal.invariant-loop-at
invariant-loop-at l = record {
  rows_are : l.rows.items ≡ map (row_of l.tables) (firsts (λ d. d.name) (take l.at l.tables.declarations));
  ahead : AreByType l.tables (length l.rows.items) l.tables.enumerants (map (λ list. list.items) l.by_type.items);
  one_each : length l.named_in.items ≡ length l.names;
  before : AreBefore (length l.rows.items + 1) l.named_in.items;
}
