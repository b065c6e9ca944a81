-- The order in which the names of a set are declared: each behind all that it names, and else as the registry has them. The rule is this tool's own.
use Rattle.std.specs.Prelude.{◌≡◌, ℕ, ◌<◌, Bool, List, filter, take, slice_get, slice_index_or, Some, false, Contains}
use Rattle.vkb_bytes.specs.First.{IsFirst}
use Rattle.reg_registry.specs.declared.registry.Row.{Row}
use Rattle.reg_registry.specs.Naming.{Names}
use Rattle.reg_closure.specs.Closure.{IsIn}

-- what a name of the set names is in the set
abbrev pub IsClosedSet : List Row → List Bool → Type 0
IsClosedSet rows set = (place other : ℕ) → IsIn set place → Names rows place other → IsIn set other

-- The name may stand behind those that are placed: it is in the set, isn't placed yet, and all that it names is placed.
pub record MayStand (rows : List Row) (set : List Bool) (placed : List ℕ) (place : ℕ) : Type 0 where
  pub one : IsIn set place
  pub new : Contains placed place → ⊥
  pub after : (other : ℕ) → Names rows place other → Contains placed other

-- Each place of the order has the first name, as the registry has them, of those that may stand behind the ones before it, and in the end none
-- may stand there any more.
pub record IsOrder (rows : List Row) (set : List Bool) (order : List ℕ) : Type 0 where
  pub each : (at place : ℕ) → slice_get order at ≡ Some place → IsFirst (MayStand rows set (take at order)) place
  pub whole : (place : ℕ) → MayStand rows set order place → ⊥

-- the order has each name of the set, once, and no other
pub record HasEachOnce (set : List Bool) (order : List ℕ) : Type 0 where
  pub only : (place : ℕ) → Contains order place → IsIn set place
  pub all : (place : ℕ) → IsIn set place → Contains order place
  pub once : (at other place : ℕ) → slice_get order at ≡ Some place → slice_get order other ≡ Some place → at ≡ other

-- each name stands behind all that it names
abbrev pub StandBehind : List Row → List ℕ → Type 0
StandBehind rows order =
    (at place other : ℕ) → slice_get order at ≡ Some place → Names rows place other → (before : ℕ) × (before < at) × (slice_get order before ≡ Some other)

-- the one set has no name that the other hasn't
abbrev pub IsPart : List Bool → List Bool → Type 0
IsPart part set = (place : ℕ) → IsIn part place → IsIn set place

-- an order without the names that a set hasn't
abbrev pub only_in : List Bool → List ℕ → List ℕ
only_in set order = filter (λ place. slice_index_or set place false) order
