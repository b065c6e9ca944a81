-- The steps of a refutation that its last step needs.
use Rattle.std.specs.Prelude.{◌≡◌, ℕ, ◌+◌, ◌-◌, ◌<◌, ◌≤◌, ◌↔◌, Bool, true, false, Some, List, [], ◌∷◌, length, map, take, slice_get, slice_index, slice_index_or, All, Contains, nat_lt, if◌then◌else◌}
use Rattle.sat_proof.specs.declared.step.Step.{Step}

-- a chain of hints leads from the last step to the step at a place, where the clauses are so many
pub data IsReached (count : ℕ) (steps : List Step) : ℕ → Type 0 where
  the_last : {place : ℕ} → place + 1 ≡ length steps → IsReached count steps place
  hinted_at : {from place : ℕ} {step : Step} → IsReached count steps from → slice_get steps from ≡ Some step → Contains step.hints (count + place) → IsReached count steps place

-- those of a list that stay, in order
abbrev pub staying : {X : Type 0} → List Bool → List X → List X
staying [] xs = []
staying (stay ∷ stays) [] = []
staying (true ∷ stays) (x ∷ xs) = x ∷ staying stays xs
staying (false ∷ stays) (x ∷ xs) = staying stays xs

-- how many stay
abbrev pub stay_count : List Bool → ℕ
stay_count [] = 0
stay_count (true ∷ stays) = stay_count stays + 1
stay_count (false ∷ stays) = stay_count stays

-- the new number of a hint: that of a clause stays, and that of a step counts the steps before it that stay
abbrev pub new_hint : ℕ → List Bool → ℕ → ℕ
new_hint count stays hint = if nat_lt hint count then hint else count + stay_count (take (hint - count) stays)

abbrev pub renumbered : ℕ → List Bool → Step → Step
renumbered count stays step = record { clause = step.clause; hints = map (new_hint count stays) step.hints }

-- the steps that are reached, in order, with their clauses, and with their hints renumbered
pub record IsTrimmed (count : ℕ) (steps kept : List Step) : Type 0 where
  pub stays : List Bool
  pub each : length stays ≡ length steps
  pub reached : (place : ℕ) → (slice_index_or stays place false ≡ true) ↔ IsReached count steps place
  pub same : kept ≡ map (renumbered count stays) (staying stays steps)

-- For private contracts, from here on.

-- each hint means a clause or an earlier step
abbrev pub AreEarlier : ℕ → List Step → Type 0
AreEarlier count steps = (place : ℕ) (step : Step) → slice_get steps place ≡ Some step → All (λ hint. hint < count + place) step.hints

-- all marked steps are reached, and those that the marked steps from a place on hint at are marked
pub record IsMarked (count : ℕ) (steps : List Step) (place : ℕ) (stays : List Bool) : Type 0 where
  pub each : length stays ≡ length steps
  pub reached : (other : ℕ) → slice_index_or stays other false ≡ true → IsReached count steps other
  pub ends : (other : ℕ) → other + 1 ≡ length steps → slice_index_or stays other false ≡ true
  pub closed : (from other : ℕ) (step : Step) → place ≤ from → slice_index_or stays from false ≡ true → slice_get steps from ≡ Some step
      → Contains step.hints (count + other) → slice_index_or stays other false ≡ true

-- the steps before a place that stay, renumbered, and the new number of each step before it
pub record IsKept (count : ℕ) (steps : List Step) (stays : List Bool) (place : ℕ) (kept : List Step) (numbers : List ℕ) : Type 0 where
  pub numbered : length numbers ≡ place
  pub number : (other : ℕ) → other < place → slice_index numbers other ≡ count + stay_count (take other stays)
  pub counted : length kept ≡ stay_count (take place stays)
  pub same : kept ≡ map (renumbered count stays) (staying (take place stays) (take place steps))

-- the new number of a hint, by a table of those of the steps
abbrev pub looked_up : ℕ → List ℕ → ℕ → ℕ
looked_up count numbers hint = if nat_lt hint count then hint else slice_index numbers (hint - count)
