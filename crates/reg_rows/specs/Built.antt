-- What is kept while rows are built, for private contracts alone. No public contract names it.
use Rattle.std.specs.Prelude.{◌≡◌, ◌≤◌, ◌&&◌, ℕ, true, false, List, Some, length, map, slice_get, option_map}
use Rattle.std.specs.List.{list_any, position}
use Rattle.std.specs.Str.{bytes_eq}
use Rattle.reg_forms.specs.declared.forms.EnumForm.{EnumForm}
use Rattle.reg_forms.specs.declared.forms.Forms.{Forms}
use Rattle.vkb_formula.specs.Names.{AreDifferent, most_names}
use Rattle.reg_tables.specs.Bits.{Readings, atom_of, bits_of}
use Rattle.reg_tables.specs.Words.{AreReadings}
use Rattle.reg_tables.specs.declared.bits.Bit.{Bit}
use Rattle.reg_rows.specs.Rows.{blocks_with, option_names}
use Rattle.reg_rows.specs.declared.building.uses.Uses.{Uses}

-- the row at a place is the first of its enumerant
abbrev pub IsFirstRow : Forms → ℕ → EnumForm → Type 0
IsFirstRow f place e = (slice_get f.enumerants place ≡ Some e) × (position (λ other. bytes_eq e.name other.name) f.enumerants ≡ Some place)

pub record AreUses (f : Forms) (uses : Uses) : Type 0 where
  pub always_are : (place : ℕ) (e : EnumForm) → IsFirstRow f place e
      → slice_get uses.always.items place ≡ Some (list_any (λ other. other.base && bytes_eq e.name other.name) f.enumerants)
  pub required_are : (place : ℕ) (e : EnumForm) → IsFirstRow f place e
      → option_map (λ blocks. blocks.items) (slice_get uses.required.items place) ≡ Some (blocks_with f true e.name)
  pub removed_are : (place : ℕ) (e : EnumForm) → IsFirstRow f place e
      → option_map (λ blocks. blocks.items) (slice_get uses.removed.items place) ≡ Some (blocks_with f false e.name)

-- the texts are read in one way, and so these are the bits, and the options differ and fit into a table
pub record AreOptions (f : Forms) (bits : List Bit) : Type 0 where
  pub readings : Readings
  pub are_readings : AreReadings f readings
  pub only : (other : Readings) → AreReadings f other → other ≡ readings
  pub bits_are : map atom_of bits ≡ bits_of f readings
  pub differ : AreDifferent (option_names f readings)
  pub few : length (option_names f readings) ≤ most_names
