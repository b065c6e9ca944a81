-- For private contracts: names wait for those that they name. One that waits for none may stand next, and then those that name it wait for one less.
use Rattle.std.specs.Prelude.{◌≡◌, ◌⊎◌, ℕ, ◌+◌, ◌<◌, ◌==◌, Bool, List, [], ◌∷◌, ◌++◌, length, take, slice_get, Some, Contains, if◌then◌else◌}
use Rattle.std.specs.List.{list_any}
use Rattle.vkb_bytes.specs.First.{IsFirst}
use Rattle.vkb_formula.specs.declared.name_table.NameId.{NameId}
use Rattle.reg_registry.specs.declared.registry.Row.{Row}
use Rattle.reg_registry.specs.Naming.{Names, NoneTwice}
use Rattle.reg_registry.specs.Rows.{id_at}
use Rattle.reg_closure.specs.Closure.{IsIn}
use Rattle.reg_closure.specs.Orders.{MayStand}

abbrev pub is_placed : List ℕ → ℕ → Bool
is_placed placed place = list_any (λ other. other == place) placed

-- how many of these names aren't placed
abbrev pub left : List ℕ → List NameId → ℕ
left placed [] = 0
left placed (id ∷ ids) = (if is_placed placed id.0 then 0 else 1) + left placed ids

-- for each name how many of those that it names aren't placed, and the names that may stand next
pub record Waits : Type 0 where
  pub counts : List ℕ
  pub ready : List ℕ

-- each name that is placed was the first of those that might stand there
abbrev pub ArePlaced : List Row → List Bool → List ℕ → Type 0
ArePlaced rows set placed = (at place : ℕ) → slice_get placed at ≡ Some place → IsFirst (MayStand rows set (take at placed)) place

pub record IsWaiting (rows : List Row) (set : List Bool) (placed : List ℕ) (w : Waits) : Type 0 where
  pub count : length w.counts ≡ length set
  pub counts : (place : ℕ) (row : Row) → IsIn set place → slice_get rows place ≡ Some row → slice_get w.counts place ≡ Some (left placed row.named)
  pub only : (place : ℕ) → Contains w.ready place → MayStand rows set placed place
  pub all : (place : ℕ) → MayStand rows set placed place → Contains w.ready place

-- names wait for one less, and those that wait for none are ready
pub record Releases (names : List ℕ) (old new : Waits) : Type 0 where
  pub count : length new.counts ≡ length old.counts
  pub fewer : (place n : ℕ) → Contains names place → slice_get old.counts place ≡ Some (n + 1) → slice_get new.counts place ≡ Some n
  pub others : (place : ℕ) → (Contains names place → ⊥) → slice_get new.counts place ≡ slice_get old.counts place
  pub stays : (place : ℕ) → Contains old.ready place → Contains new.ready place
  pub freed : (place : ℕ) → Contains names place → slice_get new.counts place ≡ Some 0 → Contains new.ready place
  pub only : (place : ℕ) → Contains new.ready place → Contains old.ready place ⊎ (Contains names place × (slice_get new.counts place ≡ Some 0))

-- a name is put behind the namers of others
pub record Puts (namer : ℕ) (names : List NameId) (old new : List (List ℕ)) : Type 0 where
  pub count : length new ≡ length old
  pub added : (name : ℕ) (list : List ℕ) → slice_get old name ≡ Some list → Contains names (id_at name) → slice_get new name ≡ Some (list ++ namer ∷ [])
  pub others : (name : ℕ) → (Contains names (id_at name) → ⊥) → slice_get new name ≡ slice_get old name

-- for each name those of the set that name it, of the places before an end
pub record AreNamers (rows : List Row) (set : List Bool) (end : ℕ) (namers : List (List ℕ)) : Type 0 where
  pub count : length namers ≡ length rows
  pub once : (name : ℕ) (list : List ℕ) → slice_get namers name ≡ Some list → NoneTwice list
  pub only : (name place : ℕ) (list : List ℕ) → slice_get namers name ≡ Some list → Contains list place → (place < end) × IsIn set place × Names rows place name
  pub all : (name place : ℕ) (list : List ℕ) → slice_get namers name ≡ Some list → place < end → IsIn set place → Names rows place name → Contains list place
