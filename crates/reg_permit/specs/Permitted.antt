-- Which choices of options are permitted. The rules follow what the Vulkan registry manual says of features, of the extensions' `depends` and of
-- structs of features; that they and no others bind a choice is this tool's own.
use Rattle.std.specs.Prelude.{◌≡◌, ◌⊎◌, ℕ, ◌<◌, Bool, true, List, slice_get, Some, None}
use Rattle.vkb_formula.specs.Formulas.{value_of}
use Rattle.vkb_formula.specs.declared.name_table.NameId.{NameId}
use Rattle.reg_registry.specs.Rows.{Rows}
use Rattle.reg_registry.specs.declared.registry.OptionRow.{OptionRow}
use Rattle.reg_closure.specs.Closure.{IsIn, IsInClosure}

-- the one version is below the other
abbrev pub IsLower : ℕ × ℕ → ℕ × ℕ → Type 0
IsLower version other = (version.0 < other.0) ⊎ ((version.0 ≡ other.0) × (version.1 < other.1))

-- the option at a place is a feature of this version
abbrev pub IsFeature : List OptionRow → ℕ → ℕ × ℕ → Type 0
IsFeature options place version = (o : OptionRow) × (slice_get options place ≡ Some o) × (o.version ≡ Some version)

-- it is a feature, and none has a lower number
abbrev pub IsLowest : List OptionRow → ℕ → Type 0
IsLowest options place =
    (version : ℕ × ℕ) × IsFeature options place version × ((other : ℕ) (lower : ℕ × ℕ) → IsFeature options other lower → IsLower lower version → ⊥)

-- the feature of the lowest number is chosen, and with any other feature all of lower numbers
pub record KeepsFeature (options : List OptionRow) (chosen : List Bool) (place : ℕ) (version : ℕ × ℕ) : Type 0 where
  pub lowest : IsLowest options place → IsIn chosen place
  pub lower : IsIn chosen place → (other : ℕ) (below : ℕ × ℕ) → IsFeature options other below → IsLower below version → IsIn chosen other

-- The rule of the option at a place holds. What has a number is a feature and has a feature's rule alone; else what names a struct is a bit, and its
-- struct is in the closure at the choice where the bit is chosen; all else is an extension, and what it depends on holds where it is chosen. What is
-- free depends on nothing.
pub record KeepsRule (r : Rows) (chosen : List Bool) (place : ℕ) (o : OptionRow) : Type 0 where
  pub feature : (version : ℕ × ℕ) → o.version ≡ Some version → KeepsFeature r.option_rows chosen place version
  pub depends : o.version ≡ None → o.bit ≡ None → IsIn chosen place → value_of chosen o.depends ≡ true
  pub bit : o.version ≡ None → (owner : NameId) (member : List ℕ) → o.bit ≡ Some (owner, member) → IsIn chosen place → IsInClosure r chosen owner.0

-- a choice is permitted where each option's rule holds
abbrev pub IsPermitted : Rows → List Bool → Type 0
IsPermitted r chosen = (place : ℕ) (o : OptionRow) → slice_get r.option_rows place ≡ Some o → KeepsRule r chosen place o

-- the rule of the option at a place doesn't hold
abbrev pub BreaksRule : Rows → List Bool → ℕ → Type 0
BreaksRule r chosen place = (o : OptionRow) × (slice_get r.option_rows place ≡ Some o) × (KeepsRule r chosen place o → ⊥)
