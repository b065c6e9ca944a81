-- The first of several: of faults, the one that is told.
use Rattle.std.specs.Prelude.{ℕ, ◌<◌, List, [], ◌∷◌, Option, Some, None}

-- the place passes, and none before it does
pub record IsFirst (Passes : ℕ → Type 0) (place : ℕ) : Type 0 where
  pub here : Passes place
  pub first : (before : ℕ) → before < place → ¬ Passes before

-- the first of a list, where there is one
abbrev pub first_of : {A : Type 0} → List A → Option A
first_of [] = None
first_of (x ∷ rest) = Some x
