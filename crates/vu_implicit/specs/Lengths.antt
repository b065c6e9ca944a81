-- For private contracts: tables of the names of members, and of the lengths that they have. No public contract names it.
use Rattle.std.specs.Prelude.{◌≡◌, ℕ, Bool, not, ◌&&◌, List, is_some}
use Rattle.std.specs.List.{list_any}
use Rattle.std.specs.Str.{bytes_eq}
use Rattle.vkb_formula.specs.Names.{place_of}
use Rattle.reg_registry.specs.declared.registry.Member.{Member}

-- the member's `len` must not be 0, where it is another member
abbrev pub asks_for_length : Member → Bool
asks_for_length m = not m.optional && not m.silent && not (bytes_eq m.len m.name)

-- the table has the names of the members
abbrev pub HasNames : List Member → List (List ℕ) → Type 0
HasNames members table = (name : List ℕ) → is_some (place_of name table) ≡ list_any (λ m. bytes_eq name m.name) members

-- the table has each `len` that must not be 0
abbrev pub HasLengths : List Member → List (List ℕ) → Type 0
HasLengths members table = (name : List ℕ) → is_some (place_of name table) ≡ list_any (λ m. asks_for_length m && bytes_eq name m.len) members

pub record AreLengths (members : List Member) (names lengths : List (List ℕ)) : Type 0 where
  pub names_are : HasNames members names
  pub lengths_are : HasLengths members lengths
