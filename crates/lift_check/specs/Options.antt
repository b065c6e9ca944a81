-- What each name of a document's conditions is: always set, an option, or neither.
use Rattle.std.specs.Prelude.{◌≡◌, ℕ, ◌<◌, false, true, not, ⊤, List, Some, filter, slice_get, slice_index_or}
use Rattle.std.specs.List.{AllZip}
use Rattle.vkb_formula.specs.declared.name_table.NameId.{NameId}
use Rattle.doc_tree.specs.Flat.{is_among}
use Rattle.lift_check.specs.declared.options.Setting.{Setting}
use Rattle.lift_check.specs.declared.options.Setting.TheVariants.{Fixed, Free, Unset}

-- how many options there are, and what each name of the document is, by its number
pub record Settings : Type 0 where
  pub count : ℕ
  pub each : List Setting

-- what a name is, by its number; a name that the document hasn't is never set
abbrev pub setting_of : Settings → NameId → Setting
setting_of settings name = slice_index_or settings.each name.0 Unset

-- what a name is, where these are always set and those are the options
abbrev pub IsSetting : List (List ℕ) → List (List ℕ) → List ℕ → Setting → Type 0
IsSetting always free name Fixed = is_among always name ≡ true
IsSetting always free name (Free option) = (is_among always name ≡ false) × (slice_get free option.0 ≡ Some name)
IsSetting always free name Unset = (is_among always name ≡ false) × (is_among free name ≡ false)

-- each of the names is what its setting says
abbrev pub AreSettings : List (List ℕ) → List (List ℕ) → List (List ℕ) → List Setting → Type 0
AreSettings always free names settings = AllZip (IsSetting always free) names settings

-- the names that aren't always set, in order
abbrev pub free_among : List (List ℕ) → List (List ℕ) → List (List ℕ)
free_among always names = filter (λ name. not (is_among always name)) names

-- where a name is an option, it is one of so many
abbrev pub IsBelow : ℕ → Setting → Type 0
IsBelow options (Free option) = option.0 < options
IsBelow options _ = ⊤
