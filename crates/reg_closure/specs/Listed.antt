-- For private contracts: at which places of a list each name is listed, and an order of all names.
use Rattle.std.specs.Prelude.{◌≡◌, ℕ, ◌+◌, ◌<◌, Bool, ◌&&◌, List, [], ◌∷◌, ◌++◌, length, slice_index_or, sum_by, All, Contains, if◌then◌else◌}
use Rattle.reg_registry.specs.Naming.{Names}
use Rattle.reg_registry.specs.declared.registry.Block.{Block}
use Rattle.reg_registry.specs.declared.registry.Row.{Row}
use Rattle.reg_closure.specs.Closure.{has_name, lists_name}
use Rattle.reg_closure.specs.Marking.{is_kind}

-- the places of what passes, counted from a number on
abbrev pub places_from : {A : Type 0} → (A → Bool) → ℕ → List A → List ℕ
places_from passes at [] = []
places_from passes at (x ∷ xs) = if passes x then at ∷ places_from passes (at + 1) xs else places_from passes (at + 1) xs

-- a list of what stands under each name
abbrev pub list_at : List (List ℕ) → ℕ → List ℕ
list_at table name = slice_index_or table name []

-- a place was put last under each name that passes
pub record PutsUnder (place : ℕ) (passes : ℕ → Bool) (pairs : ℕ) (old new : List (List ℕ)) : Type 0 where
  pub count : length new ≡ length old
  pub each : (name : ℕ) → name < length old → list_at new name ≡ (if passes name then list_at old name ++ place ∷ [] else list_at old name)
  pub total : sum_by length new ≡ sum_by length old + pairs

-- under each of so many names stand the places of what lists it, and in all as many as there are pairs
pub record AreListed {A : Type 0} (lists : ℕ → A → Bool) (pairs : A → ℕ) (many : ℕ) (xs : List A) (table : List (List ℕ)) : Type 0 where
  pub count : length table ≡ many
  pub each : (name : ℕ) → name < many → list_at table name ≡ places_from (lists name) 0 xs
  pub total : sum_by length table ≡ sum_by pairs xs

abbrev pub block_lists : Bool → ℕ → Block → Bool
block_lists adds name b = is_kind adds b && lists_name name b

abbrev pub block_pairs : Bool → Block → ℕ
block_pairs adds b = if is_kind adds b then length b.lists else 0

abbrev pub row_lists : ℕ → Row → Bool
row_lists name row = has_name row.named name

abbrev pub row_pairs : Row → ℕ
row_pairs row = length row.named

-- no name stands twice, and those that name it stand behind it
abbrev pub AreBehind : List Row → List ℕ → Type 0
AreBehind rows [] = Unit {0}
AreBehind rows (name ∷ names) = (Contains names name → ⊥) × ((other : ℕ) → Names rows other name → Contains names other) × AreBehind rows names

-- all of so many names, each before those that name it
pub record IsWholeOrder (rows : List Row) (many : ℕ) (order : List ℕ) : Type 0 where
  pub within : All (λ name. name < many) order
  pub all : (name : ℕ) → name < many → Contains order name
  pub behind : AreBehind rows order
