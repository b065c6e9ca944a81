-- For private contracts: names are marked one after the other, the roots first, and then what marked names name.
use Rattle.std.specs.Prelude.{◌≡◌, ◌⊎◌, ℕ, ◌+◌, ◌<◌, ◌&&◌, Bool, true, false, not, List, [], ◌∷◌, length, slice_get, Some, Contains}
use Rattle.std.specs.List.{list_any}
use Rattle.reg_registry.specs.Naming.{Names}
use Rattle.reg_registry.specs.Rows.{Rows}
use Rattle.reg_registry.specs.declared.registry.Block.{Block}
use Rattle.reg_closure.specs.Closure.{IsIn, IsInClosure, is_active, is_root, lists_name}

-- the block requires, or it removes
abbrev pub is_kind : Bool → Block → Bool
is_kind true b = b.adds
is_kind false b = not b.adds

-- an active block of a kind lists the name
abbrev pub is_listed : Bool → List Block → List Bool → ℕ → Bool
is_listed adds blocks chosen place = list_any (λ b. is_kind adds b && is_active chosen b && lists_name place b) blocks

-- the set tells of each place below a count what a test says
pub record Tells (count : ℕ) (test : ℕ → Bool) (set : List Bool) : Type 0 where
  pub size : length set ≡ count
  pub each : (place : ℕ) → place < count → slice_get set place ≡ Some (test place)

-- which names are marked, and these names in the order in which they were
pub record Marked : Type 0 where
  pub marked : List Bool
  pub names : List ℕ

-- how many names aren't marked
abbrev pub unmarked_of : List Bool → ℕ
unmarked_of [] = 0
unmarked_of (true ∷ marked) = unmarked_of marked
unmarked_of (false ∷ marked) = 1 + unmarked_of marked

-- the names are those that are marked, each once
pub record IsMarking (m : Marked) : Type 0 where
  pub each_once : length m.names + unmarked_of m.marked ≡ length m.marked
  pub only : (place : ℕ) → Contains m.names place → IsIn m.marked place
  pub all : (place : ℕ) → IsIn m.marked place → Contains m.names place

-- names of a kind are marked besides, behind those that were
pub record Marks (Kind : ℕ → Type 0) (old new : Marked) : Type 0 where
  pub marking : IsMarking new
  pub count : length new.marked ≡ length old.marked
  pub stays : (place : ℕ) → IsIn old.marked place → IsIn new.marked place
  pub front : (at place : ℕ) → slice_get old.names at ≡ Some place → slice_get new.names at ≡ Some place
  pub all : (place : ℕ) → Kind place → IsIn new.marked place
  pub only : (place : ℕ) → IsIn new.marked place → IsIn old.marked place ⊎ Kind place

-- the roots are marked, only names of the closure are, and what the names before a place name is marked too
pub record IsClosing (r : Rows) (chosen : List Bool) (m : Marked) (place : ℕ) : Type 0 where
  pub marking : IsMarking m
  pub count : length m.marked ≡ length r.names
  pub only : (name : ℕ) → IsIn m.marked name → IsInClosure r chosen name
  pub roots : (name : ℕ) → name < length r.names → is_root r.blocks chosen name ≡ true → IsIn m.marked name
  pub looked : (at name other : ℕ) → at < place → slice_get m.names at ≡ Some name → Names r.rows name other → IsIn m.marked other
