-- Bounds of places that were read. No public contract names it.
use Rattle.std.specs.Prelude.{ℕ, ◌<◌, ◌≤◌, List, Option, Some, None}
use Rattle.std.specs.List.{AllByRecursion}
use Rattle.reg_reader.specs.declared.markup.Part.{Part}

-- a reference began before a place
abbrev pub Within : Option ℕ → ℕ → Type 0
Within None n = Unit {0}
Within (Some place) n = place < n

-- the names of attributes end by a place
abbrev pub AreWithin : ℕ → List (Part × Part) → Type 0
AreWithin n = AllByRecursion (λ attribute. (attribute.0.from ≤ attribute.0.to) × (attribute.0.to ≤ n))
