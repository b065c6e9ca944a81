-- How the `depends` texts of a registry are read: each as an expression or as none, and where the names of each stand.
use Rattle.std.specs.Prelude.{◌≡◌, ℕ, ◌<◌, ◌≤◌, List, Option, Some, None, All, IfSome, option_map, map, length, slice_range}
use Rattle.vkb_formula.specs.Expressions.{Expression, IsNoExpression, Spells, names_of, places_of}
use Rattle.reg_forms.specs.declared.forms.DependsText.{DependsText}
use Rattle.reg_forms.specs.declared.forms.Forms.{Forms}
use Rattle.reg_tables.specs.Bits.{Readings}

-- the text is this expression, or none
abbrev pub IsReadAs : List ℕ → Option Expression → Type 0
IsReadAs text (Some e) = Spells e text
IsReadAs text None = IsNoExpression text

-- the `depends` texts are read so
pub record AreReadings (f : Forms) (readings : Readings) : Type 0 where
  pub texts : map (λ reading. reading.0) readings ≡ f.texts
  pub each : All (λ reading. IsReadAs reading.0.text reading.1) readings

-- where the names of each text stand that is an expression
abbrev pub words_in : Readings → List (Option (List (ℕ × ℕ)))
words_in readings = map (λ reading. option_map (places_of 0) reading.1) readings

-- the places are those of the names in the text, in their order
pub record HasNames (text : List ℕ) (places : List (ℕ × ℕ)) (names : List (List ℕ)) : Type 0 where
  pub names_are : map (λ place. slice_range text place.0 place.1) places ≡ names
  pub within : All (λ place. (place.0 < place.1) × (place.1 ≤ length text)) places

-- the same of a text that is an expression
abbrev pub HasNamesOf : DependsText × Option Expression → Type 0
HasNamesOf reading = IfSome reading.1 (λ e. HasNames reading.0.text (places_of 0 e) (names_of e))

-- the texts are read so, and these are the places of their names
pub record AreWords (f : Forms) (words : List (Option (List (ℕ × ℕ)))) : Type 0 where
  pub readings : Readings
  pub are_readings : AreReadings f readings
  pub words_are : words ≡ words_in readings
  pub named : All HasNamesOf readings
  pub only : (other : Readings) → AreReadings f other → other ≡ readings
