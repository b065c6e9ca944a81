-- How the ends of chains are reached, for private contracts alone. No public contract names it.
use Rattle.std.specs.Prelude.{◌≡◌, ℕ, zero, suc, ◌+◌, ◌<◌, Bool, true, false, ◌==◌, List, length, Option, Some, None, is_none, is_some, count_by, slice_index_or, Contains, if◌then◌else◌}
use Rattle.std.specs.Option.{option_map_or}
use Rattle.reg_tables.specs.Places.{last_place_in}

-- what stands at a place, and nothing past the end
abbrev pub link_at : List (Option ℕ) → ℕ → Option ℕ
link_at links place = slice_index_or links place None

abbrev pub leads_to : List (Option ℕ) → ℕ → ℕ → Bool
leads_to next to from = option_map_or (λ other. other == to) (link_at next from) false

-- the greatest of so many places that lead to one
abbrev pub greatest_leader : List (Option ℕ) → ℕ → ℕ → Option ℕ
greatest_leader next to zero = None
greatest_leader next to (suc n) = if leads_to next to n then Some n else greatest_leader next to n

-- how many places there are up to one
abbrev pub up_to : Option ℕ → ℕ
up_to None = 0
up_to (Some place) = place + 1

-- of so many places the greatest that leads to each, and from each the next smaller one that leads to the same
pub record AreLeaders (next : List (Option ℕ)) (count : ℕ) (greatest smaller : List (Option ℕ)) : Type 0 where
  pub greatest_count : length greatest ≡ length next
  pub smaller_count : length smaller ≡ length next
  pub greatest_are : (to : ℕ) → link_at greatest to ≡ greatest_leader next to count
  pub smaller_are : (from to : ℕ) → from < count → link_at next from ≡ Some to → link_at smaller from ≡ greatest_leader next to from

abbrev pub IsReached : List (Option ℕ) → ℕ → Type 0
IsReached lasts place = is_some (link_at lasts place) ≡ true

-- the chain from a place ends within so many steps, in the place that is told
pub record EndsAsTold (next lasts : List (Option ℕ)) (steps place : ℕ) : Type 0 where
  pub last : ℕ
  pub ends : last_place_in steps next place ≡ Some last
  pub told : link_at lasts place ≡ Some last

-- The places in their order are those that were reached, each once, and each leads to one before it or ends.
pub record AreReached (next lasts : List (Option ℕ)) (order : List ℕ) : Type 0 where
  pub each : length lasts ≡ length next
  pub counted : count_by is_none lasts + length order ≡ length next
  pub told : (i : ℕ) → i < length order → EndsAsTold next lasts (i + 1) (slice_index_or order i 0)
  pub ordered : (place : ℕ) → IsReached lasts place → Contains order place

-- what was reached before stays so, and more may be reached
pub record Grow (lasts : List (Option ℕ)) (order : List ℕ) (lasts_after : List (Option ℕ)) (order_after : List ℕ) : Type 0 where
  pub each : length lasts_after ≡ length lasts
  pub kept : (place last : ℕ) → link_at lasts place ≡ Some last → link_at lasts_after place ≡ Some last
  pub more : (i : ℕ) → i < length order → i < length order_after
  pub same : (i : ℕ) → i < length order → slice_index_or order_after i 0 ≡ slice_index_or order i 0

-- all that lead to a place are reached
abbrev pub IsLedBack : List (Option ℕ) → ℕ → List (Option ℕ) → Type 0
IsLedBack next to lasts = (from : ℕ) → link_at next from ≡ Some to → IsReached lasts from

-- of so many places those that lead nowhere are reached
abbrev pub AreEndsReached : List (Option ℕ) → ℕ → List (Option ℕ) → Type 0
AreEndsReached next count lasts = (place : ℕ) → place < count → link_at next place ≡ None → IsReached lasts place
