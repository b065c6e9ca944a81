-- What closures and orders are, in other words: the laws of this crate.
use Rattle.std.specs.Prelude.{◌≡◌, ◌⊎◌, ℕ, Bool, List, length}
use Rattle.reg_registry.specs.Laws.{AreWithin}
use Rattle.reg_registry.specs.Naming.{AreSound}
use Rattle.reg_registry.specs.Rows.{Rows}
use Rattle.reg_registry.specs.declared.registry.Row.{Row}
use Rattle.reg_closure.specs.Closure.{IsClosure, IsInClosure}
use Rattle.reg_closure.specs.Orders.{HasEachOnce, IsClosedSet, IsOrder, IsPart, StandBehind, only_in}

-- there is one closure at a choice, at most
abbrev pub ClosuresAreOne : Type 0
ClosuresAreOne = (r : Rows) (chosen set other : List Bool) → IsClosure r chosen set → IsClosure r chosen other → set ≡ other

-- a closure has all that its names name
abbrev pub ClosuresAreClosed : Type 0
ClosuresAreClosed = (r : Rows) (chosen set : List Bool) → IsClosure r chosen set → IsClosedSet r.rows set

-- the closure has a name at a choice or it hasn't, where what the rows name is there
abbrev pub InClosureOrNot : Type 0
InClosureOrNot = (r : Rows) (chosen : List Bool) (place : ℕ) → AreWithin r.rows → IsInClosure r chosen place ⊎ (IsInClosure r chosen place → ⊥)

-- a set has one order, at most
abbrev pub OrdersAreOne : Type 0
OrdersAreOne = (rows : List Row) (set : List Bool) (order other : List ℕ) → IsOrder rows set order → IsOrder rows set other → order ≡ other

-- The order of a closed set of a registry's names has each of them once, behind all that it names.
abbrev pub OrdersAreWhole : Type 0
OrdersAreWhole =
    (r : Rows) (set : List Bool) (order : List ℕ) → AreSound r → length set ≡ length r.names → IsClosedSet r.rows set → IsOrder r.rows set order
    → HasEachOnce set order × StandBehind r.rows order

-- The order of a closed part is the order of the whole, without the names that aren't in the part.
abbrev pub OrdersOfParts : Type 0
OrdersOfParts =
    (rows : List Row) (part set : List Bool) (order : List ℕ) → IsClosedSet rows part → IsPart part set → IsOrder rows set order
    → IsOrder rows part (only_in part order)
