-- For private contracts: the least of the numbers of features.
use Rattle.std.specs.Prelude.{◌≡◌, ◌⊎◌, ℕ, ◌<◌, Bool, List, Option, Some, IfSome, IsSomeAnd, MatchOption}
use Rattle.reg_registry.specs.declared.registry.OptionRow.{OptionRow}
use Rattle.reg_closure.specs.Closure.{IsIn}
use Rattle.reg_permit.specs.Permitted.{IsFeature, IsLower}

-- the least of the numbers that pass, if any passes
abbrev pub IsLeast : (ℕ × ℕ → Type 0) → Option (ℕ × ℕ) → Type 0
IsLeast Passes least =
    MatchOption least ((version : ℕ × ℕ) → Passes version → ⊥) (λ version. Passes version × ((other : ℕ × ℕ) → Passes other → IsLower other version → ⊥))

-- a feature of this number stands before a place
abbrev pub IsNumber : List OptionRow → ℕ → ℕ × ℕ → Type 0
IsNumber options count version = (place : ℕ) × (place < count) × IsFeature options place version

-- a feature of this number stands before a place and isn't chosen
abbrev pub IsLeftOut : List OptionRow → List Bool → ℕ → ℕ × ℕ → Type 0
IsLeftOut options chosen count version = (place : ℕ) × (place < count) × IsFeature options place version × (IsIn chosen place → ⊥)

-- the lower of a number and the least so far
pub record IsLowerOf (least : Option (ℕ × ℕ)) (version lower : ℕ × ℕ) : Type 0 where
  pub one : (lower ≡ version) ⊎ (least ≡ Some lower)
  pub here : IsLower version lower → ⊥
  pub before : IfSome least (λ old. IsLower old lower → ⊥)

-- the least so far, after one more number
abbrev pub IsLeastWith : Option (ℕ × ℕ) → ℕ × ℕ → Option (ℕ × ℕ) → Type 0
IsLeastWith old version new = IsSomeAnd new (IsLowerOf old version)
