use Rattle.std.proofs.Common.{◌≡◌, ℕ, ◌<◌, ◌≤◌, ◌++◌, [], drop, get_or, length, map}
use Rattle.reg_tables.specs.Bits.{Readings}
use Rattle.reg_tables.specs.Words.{AreReadings}
use Rattle.reg_rows.specs.Rows.{block_rows, listed_at}
use Rattle.reg_rows.proofs.building.blocks.blocks.Given as goal

abbrev pub invariant-loop-place : goal.invariant-loop-place
invariant-loop-place l = record {
  each_has_one : length l.listed.items ≡ length l.tables.blocks;
  listed_are : (k : ℕ) → l.place ≤ k → k < length l.tables.blocks → get_or (map (λ list. list.items) l.listed.items) k [] ≡ listed_at l.tables k;
  made_are : (readings : Readings) → AreReadings l.tables readings
      → l.made.items ++ block_rows l.tables readings l.place (drop l.place l.tables.blocks) ≡ block_rows l.tables readings 0 l.tables.blocks;
}
