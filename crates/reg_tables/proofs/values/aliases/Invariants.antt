use Rattle.std.proofs.Common.{◌≡◌, ◌<◌, ℕ, Some, length}
use Rattle.std.specs.Prelude.{All, IfSome, slice_get}
use Rattle.std.specs.Option.{option_and_then}
use Rattle.reg_forms.specs.declared.forms.EnumForm.{EnumForm}
use Rattle.reg_tables.specs.Places.{next_place}
use Rattle.reg_tables.specs.Values.{next_of}
use Rattle.reg_tables.proofs.values.aliases.Given as goal

abbrev pub invariant-loop-row : goal.invariant-loop-row
invariant-loop-row l = record {
  each : length l.next.items ≡ l.row-index;
  next_are : (place : ℕ) (e : EnumForm) → place < l.row-index → slice_get l.rows place ≡ Some e
      → option_and_then (slice_get l.tables.enumerants) (next_place l.next.items place) ≡ next_of l.tables e;
  within : All (λ next. IfSome next (λ place. place < length l.tables.enumerants)) l.next.items;
}
