-- Where chains of aliases end: the law of this crate.
use Rattle.std.specs.Prelude.{◌≡◌, ℕ, List, None}
use Rattle.vkb_formula.specs.declared.name_table.NameId.{NameId}
use Rattle.reg_registry.specs.declared.registry.Row.{Row}
use Rattle.vu_implicit.specs.Types.{alias_of, end_of, end_within}

-- a chain of aliases that ends after some steps, however many, ends where it is said to end
abbrev pub ChainsEnd : Type 0
ChainsEnd = (rows : List Row) (name : NameId) (steps : ℕ) → alias_of rows (end_within steps rows name) ≡ None → end_of rows name ≡ end_within steps rows name
