-- The file of a registry: what it declares for an API, or what is wrong with it.
use Rattle.std.specs.Prelude.{◌≡◌, ℕ, ◌<◌, ◌≤◌, List, length, Option, Some, None, Result, Ok, Err}
use Rattle.reg_reader.specs.Markup.{IsStop, IsTooDeep}
use Rattle.reg_reader.specs.Shown.{SpellsElement}
use Rattle.reg_reader.specs.Views.{Element}
use Rattle.reg_registry.specs.Rows.{Rows}
use Rattle.reg_forms.specs.Forms.{forms_of}
use Rattle.reg_rows.specs.Answer.{IsAnswer}
use Rattle.reg_rows.specs.declared.fault.RowFault.{RowFault}
use Rattle.reg_rows.specs.declared.fault.RowFault.TheVariants as row
use Rattle.vkb_tool.specs.declared.registry.RegistryFault.{RegistryFault}
use Rattle.vkb_tool.specs.declared.registry.RegistryFault.TheVariants.{Missing, TooLarge, BadMarkup, TooDeep, BadRow, NoFeature, NamingCycle}

-- how many bytes the file of a registry may have
abbrev pub most_registry : ℕ
most_registry = 33554432

-- what is found under a name are these bytes, and not too many
pub record IsHeld (found : Option (List ℕ)) (bytes : List ℕ) : Type 0 where
  pub here : found ≡ Some bytes
  pub small : length bytes ≤ most_registry

-- what is found is a file of markup, and the rows of its root for an API come to this
pub record ComesTo (found : Option (List ℕ)) (api : List ℕ) (answer : Result Rows RowFault) : Type 0 where
  pub bytes : List ℕ
  pub held : IsHeld found bytes
  pub root : Element
  pub spelled : SpellsElement bytes root
  pub answered : IsAnswer (forms_of api root) answer

-- what is found declares these rows for an API
abbrev pub IsRegistry : Option (List ℕ) → List ℕ → Rows → Type 0
IsRegistry found api r = ComesTo found api (Ok r)

-- what is wrong with what is found, for an API: there is no file, or it is too long, or it stops being markup or gets too deep at a byte, or else
-- the first fault of its rows
abbrev pub IsRegistryFault : Option (List ℕ) → List ℕ → RegistryFault → Type 0
IsRegistryFault found api Missing = found ≡ None
IsRegistryFault found api TooLarge = (bytes : List ℕ) × (found ≡ Some bytes) × (most_registry < length bytes)
IsRegistryFault found api (BadMarkup at) = (bytes : List ℕ) × IsHeld found bytes × IsStop bytes at
IsRegistryFault found api (TooDeep at) = (bytes : List ℕ) × IsHeld found bytes × IsTooDeep bytes at
IsRegistryFault found api (BadRow code at word) = ComesTo found api (Err (row.Bad code at word))
IsRegistryFault found api NoFeature = ComesTo found api (Err row.NoFeature)
IsRegistryFault found api (NamingCycle names) = ComesTo found api (Err (row.NamingCycle names))
