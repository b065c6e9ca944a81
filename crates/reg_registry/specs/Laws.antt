-- What is true of any naming among rows: the law of this crate.
use Rattle.std.specs.Prelude.{◌≡◌, ◌⊎◌, ℕ, ◌<◌, List, length, All}
use Rattle.reg_registry.specs.declared.registry.Row.{Row}
use Rattle.reg_registry.specs.Naming.{IsCircle, IsOnCircle, Leads}

-- what the rows name is there
abbrev pub AreWithin : List Row → Type 0
AreWithin rows = All (λ row. All (λ id. id.0 < length rows) row.named) rows

-- a chain of naming leads from a name to another, or none does
abbrev pub LeadsOrNot : Type 0
LeadsOrNot = (rows : List Row) (place other : ℕ) → AreWithin rows → Leads rows place other ⊎ (Leads rows place other → ⊥)

-- some names are a circle, through the first name that lies on any, or no name lies on one
abbrev pub HasACircleOrNot : Type 0
HasACircleOrNot =
    (rows : List Row) → AreWithin rows
    → ((first : ℕ) × (others : List ℕ) × IsCircle rows first others) ⊎ ((place : ℕ) → IsOnCircle rows place → ⊥)
