-- Which row each row is an alias of, by places, for private contracts alone. No public contract names it.
use Rattle.std.specs.Prelude.{◌≡◌, ℕ, ◌<◌, List, length, Option, Some, All, IfSome, slice_get}
use Rattle.std.specs.Option.{option_and_then}
use Rattle.reg_forms.specs.declared.forms.EnumForm.{EnumForm}
use Rattle.reg_forms.specs.declared.forms.Forms.{Forms}
use Rattle.reg_tables.specs.Places.{next_place}
use Rattle.reg_tables.specs.Values.{next_of}

-- the places of the rows that rows are aliases of
pub record AreAliases (f : Forms) (next : List (Option ℕ)) : Type 0 where
  pub each : length next ≡ length f.enumerants
  pub next_are : (place : ℕ) (e : EnumForm) → slice_get f.enumerants place ≡ Some e
      → option_and_then (slice_get f.enumerants) (next_place next place) ≡ next_of f e
  pub within : All (λ next. IfSome next (λ place. place < length f.enumerants)) next
