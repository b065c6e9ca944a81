-- Tables from names to where they stand, for private contracts alone. No public contract names it.
use Rattle.std.specs.Prelude.{◌≡◌, ℕ, List, Option, Some, None, length, slice_get, zero, suc}
use Rattle.std.specs.List.{position}
use Rattle.std.specs.Option.{option_and_then, option_flatten, option_map_or}
use Rattle.std.specs.Str.{bytes_eq}
use Rattle.vkb_formula.specs.Names.{place_of}

-- what a table of different names and of their places has under a name
abbrev pub place_in : List (List ℕ) → List ℕ → List ℕ → Option ℕ
place_in table places name = option_and_then (slice_get places) (place_of name table)

-- the table has the place at which each name stands first among these, and no other places
pub record AreFirstPlaces (table : List (List ℕ)) (places : List ℕ) (names : List (List ℕ)) : Type 0 where
  pub each_has_one : length places ≡ length table
  pub finds : (name : List ℕ) → place_in table places name ≡ position (bytes_eq name) names

-- the place behind one, if there is one
abbrev pub next_place : List (Option ℕ) → ℕ → Option ℕ
next_place next place = option_flatten (slice_get next place)

-- The last place of a chain that begins at a place, where the chain ends within so many steps.
abbrev pub last_place_in : ℕ → List (Option ℕ) → ℕ → Option ℕ
last_place_in zero next place = None
last_place_in (suc n) next place = option_map_or (last_place_in n next) (next_place next place) (Some place)
