-- Which declared names name which, and that none do so in a circle.
use Rattle.std.specs.Prelude.{◌≡◌, ℕ, ◌<◌, ◌≤◌, true, List, [], ◌∷◌, length, map, Some, slice_get, All, Contains, IsSomeAnd, IfSome}
use Rattle.vkb_bytes.specs.First.{IsFirst}
use Rattle.vkb_formula.specs.Formulas.{reach_of}
use Rattle.vkb_formula.specs.Names.{AreDifferent, most_names}
use Rattle.reg_registry.specs.Words.{is_name}
use Rattle.reg_registry.specs.declared.registry.Block.{Block}
use Rattle.reg_registry.specs.declared.registry.Enumerant.{Enumerant}
use Rattle.reg_registry.specs.declared.registry.Member.{Member}
use Rattle.reg_registry.specs.declared.registry.OptionRow.{OptionRow}
use Rattle.reg_registry.specs.declared.registry.Row.{Row}
use Rattle.reg_registry.specs.Depends.{IsDepends}
use Rattle.reg_registry.specs.Rows.{Rows, id_at}

-- the row at a place names the name at another
abbrev pub Names : List Row → ℕ → ℕ → Type 0
Names rows place other = IsSomeAnd (slice_get rows place) (λ row. Contains row.named (id_at other))

-- a chain of naming leads from a name to another, in one step or more
pub data Leads (rows : List Row) : ℕ → ℕ → Type 0 where
  step : {place other : ℕ} → Names rows place other → Leads rows place other
  more : {place next other : ℕ} → Names rows place next → Leads rows next other → Leads rows place other

-- the name lies on a circle
abbrev pub IsOnCircle : List Row → ℕ → Type 0
IsOnCircle rows place = Leads rows place place

-- each names the next, and the last of them names this one
abbrev pub LeadBack : List Row → ℕ → List ℕ → ℕ → Type 0
LeadBack rows place [] first = Names rows place first
LeadBack rows place (next ∷ others) first = Names rows place next × LeadBack rows next others first

-- no place stands twice
abbrev pub NoneTwice : List ℕ → Type 0
NoneTwice [] = Unit {0}
NoneTwice (place ∷ others) = (Contains others place → ⊥) × NoneTwice others

-- The names at these places are a circle: they differ, each names the next, and the last names the first, which is the first name in
-- the order of the registry that lies on any circle.
pub record IsCircle (rows : List Row) (first : ℕ) (others : List ℕ) : Type 0 where
  pub differ : NoneTwice (first ∷ others)
  pub lead : LeadBack rows first others first
  pub is_first : IsFirst (IsOnCircle rows) first

-- names that are a circle
pub record IsNamingCycle (r : Rows) (names : List (List ℕ)) : Type 0 where
  pub first : ℕ
  pub others : List ℕ
  pub is_circle : IsCircle r.rows first others
  pub named : map Some names ≡ map (slice_get r.names) (first ∷ others)

-- the longest that a name, a text or a list in a row is
abbrev pub most_bytes : ℕ
most_bytes = 33554432

abbrev pub IsShort : {A : Type 0} → List A → Type 0
IsShort list = length list ≤ most_bytes

pub record IsSoundMember (names : ℕ) (m : Member) : Type 0 where
  pub base : m.base.0 < names
  pub name_short : IsShort m.name
  pub text_short : IsShort m.text
  pub values_short : IsShort m.values
  pub len_short : IsShort m.len
  pub stars_few : m.stars ≤ most_bytes

pub record IsSoundEnumerant (blocks : ℕ) (e : Enumerant) : Type 0 where
  pub required : All (λ place. place < blocks) e.required
  pub removed : All (λ place. place < blocks) e.removed
  pub name_short : IsShort e.name
  pub end_short : IfSome e.end IsShort
  pub required_short : IsShort e.required
  pub removed_short : IsShort e.removed

-- what a row names is there, and nothing in it is too long
pub record IsSoundRow (names blocks : ℕ) (row : Row) : Type 0 where
  pub alias : IfSome row.alias (λ id. id.0 < names)
  pub bits : IfSome row.bits (λ id. id.0 < names)
  pub extends : All (λ id. id.0 < names) row.extends
  pub named : All (λ id. id.0 < names) row.named
  pub members : All (IsSoundMember names) row.members
  pub values : All (IsSoundEnumerant blocks) row.values
  pub text_short : IsShort row.text
  pub result_short : IsShort row.result
  pub members_short : IsShort row.members
  pub extends_short : IsShort row.extends
  pub values_short : IsShort row.values
  pub named_short : IsShort row.named
  pub named_once : NoneTwice (map (λ id. id.0) row.named)

pub record IsSoundOption (names options : ℕ) (o : OptionRow) : Type 0 where
  pub reach : reach_of o.depends ≤ options
  pub depends : IsDepends o.depends
  pub bit : IfSome o.bit (λ bit. bit.0.0 < names)

pub record IsSoundBlock (names options : ℕ) (b : Block) : Type 0 where
  pub owner : b.owner < options
  pub reach : reach_of b.depends ≤ options
  pub depends : IsDepends b.depends
  pub lists : All (λ id. id.0 < names) b.lists
  pub lists_short : IsShort b.lists
  pub lists_once : NoneTwice (map (λ id. id.0) b.lists)

-- no two features have one number
abbrev pub NumbersDiffer : List OptionRow → Type 0
NumbersDiffer options =
    (place other : ℕ) (o p : OptionRow) (version : ℕ × ℕ) → slice_get options place ≡ Some o → slice_get options other ≡ Some p
    → o.version ≡ Some version → p.version ≡ Some version → place ≡ other

-- what always holds of a registry
pub record AreSound (r : Rows) : Type 0 where
  pub rows_count : length r.rows ≡ length r.names
  pub options_count : length r.option_rows ≡ length r.options
  pub names_named : All (λ name. is_name name ≡ true) r.names
  pub options_named : All (λ name. is_name name ≡ true) r.options
  pub names_short : All IsShort r.names
  pub names_few : length r.names ≤ most_names
  pub options_few : length r.options ≤ most_names
  pub names_differ : AreDifferent r.names
  pub options_differ : AreDifferent r.options
  pub numbers_differ : NumbersDiffer r.option_rows
  pub blocks_few : length r.blocks ≤ most_bytes
  pub each_row : All (IsSoundRow (length r.names) (length r.blocks)) r.rows
  pub each_option : All (IsSoundOption (length r.names) (length r.options)) r.option_rows
  pub each_block : All (IsSoundBlock (length r.names) (length r.options)) r.blocks
  pub no_circle : (place : ℕ) → IsOnCircle r.rows place → ⊥
