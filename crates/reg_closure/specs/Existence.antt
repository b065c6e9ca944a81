-- That closures and orders are there, and that orders are whole where names are in no circle: laws of this crate.
use Rattle.std.specs.Prelude.{◌≡◌, ℕ, Bool, List, length}
use Rattle.reg_registry.specs.Laws.{AreWithin}
use Rattle.reg_registry.specs.Naming.{IsOnCircle}
use Rattle.reg_registry.specs.Rows.{Rows}
use Rattle.reg_registry.specs.declared.registry.Row.{Row}
use Rattle.reg_closure.specs.Closure.{IsClosure}
use Rattle.reg_closure.specs.Orders.{HasEachOnce, IsClosedSet, IsOrder, StandBehind}

-- each choice has a closure, where each name has a row and what the rows name is there
abbrev pub ClosuresAreThere : Type 0
ClosuresAreThere = (r : Rows) (chosen : List Bool) → length r.rows ≡ length r.names → AreWithin r.rows → (set : List Bool) × IsClosure r chosen set

-- each set has an order
abbrev pub OrdersAreThere : Type 0
OrdersAreThere = (rows : List Row) (set : List Bool) → (order : List ℕ) × IsOrder rows set order

-- The order of a closed set of names that lie on no circle has each of them once, behind all that it names.
abbrev pub OrdersHaveAll : Type 0
OrdersHaveAll =
    (r : Rows) (set : List Bool) (order : List ℕ) → length r.rows ≡ length r.names → ((place : ℕ) → IsOnCircle r.rows place → ⊥)
    → length set ≡ length r.names → IsClosedSet r.rows set → IsOrder r.rows set order → HasEachOnce set order × StandBehind r.rows order
