-- The choice that words name.
use Rattle.std.specs.Prelude.{◌≡◌, ℕ, Bool, List, map, Option, Some, None, is_none, find}
use Rattle.std.specs.List.{list_any}
use Rattle.std.specs.Str.{bytes_eq}
use Rattle.vkb_bytes.specs.First.{IsFirst}
use Rattle.vkb_formula.specs.Names.{place_of}
use Rattle.reg_registry.specs.Rows.{Rows}
use Rattle.reg_permit.specs.Permitted.{BreaksRule, IsPermitted}
use Rattle.reg_permit.specs.declared.choosing.ChoiceFault.{ChoiceFault}
use Rattle.reg_permit.specs.declared.choosing.ChoiceFault.TheVariants.{UnknownOption, NotPermitted, Memory}

-- each option is chosen that one of the words names
abbrev pub chosen_by : List (List ℕ) → List (List ℕ) → List Bool
chosen_by options words = map (λ option. list_any (bytes_eq option) words) options

-- the first of the words that is no option
abbrev pub unknown_in : List (List ℕ) → List (List ℕ) → Option (List ℕ)
unknown_in options words = find (λ word. is_none (place_of word options)) words

-- the words name a permitted choice, this one
pub record IsChoice (r : Rows) (words : List (List ℕ)) (chosen : List Bool) : Type 0 where
  pub known : unknown_in r.options words ≡ None
  pub named : chosen ≡ chosen_by r.options words
  pub permitted : IsPermitted r chosen

-- the words name a choice that isn't permitted; the option is the first whose rule doesn't hold
pub record IsNotPermitted (r : Rows) (words : List (List ℕ)) (option : ℕ) : Type 0 where
  pub known : unknown_in r.options words ≡ None
  pub first : IsFirst (BreaksRule r (chosen_by r.options words)) option

-- why there is no choice
abbrev pub IsChoiceFault : Rows → List (List ℕ) → ChoiceFault → Type 0
IsChoiceFault r words (UnknownOption word) = unknown_in r.options words ≡ Some word
IsChoiceFault r words (NotPermitted option) = IsNotPermitted r words option.0
IsChoiceFault r words Memory = Unit {0}
