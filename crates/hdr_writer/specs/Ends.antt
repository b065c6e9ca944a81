-- For private contracts: where chains of aliases end, as far as they were followed.
use Rattle.std.specs.Prelude.{◌≡◌, ◌⊎◌, ℕ, ◌+◌, ◌≤◌, List, length, Option, Some, None, slice_get}
use Rattle.reg_registry.specs.declared.registry.Row.{Row}
use Rattle.hdr_writer.specs.declared.chains.End.{End}
use Rattle.hdr_writer.specs.Aliases.{end_in}

-- Behind so many aliases of the row at a place another stands, which is no alias, or as many were followed as there are rows.
pub record IsEnd (rows : List Row) (place : ℕ) (end : End) : Type 0 where
  pub row : Row
  pub last : Row
  pub here : slice_get rows place ≡ Some row
  pub there : slice_get rows end.place.0 ≡ Some last
  pub ahead : (more : ℕ) → end_in (end.steps + more) rows row ≡ end_in more rows last
  pub few : end.steps ≤ length rows
  pub done : (last.alias ≡ None) ⊎ (end.steps ≡ length rows)

-- for some rows it is known
pub record AreEnds (rows : List Row) (known : List (Option End)) : Type 0 where
  pub count : length known ≡ length rows
  pub each : (place : ℕ) (end : End) → slice_get known place ≡ Some (Some end) → IsEnd rows place end
