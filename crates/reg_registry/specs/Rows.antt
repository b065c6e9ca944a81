-- What a registry declares, as plain lists.
use Rattle.std.specs.Prelude.{ℕ, List, [], map, Option, None, option_map}
use Rattle.vkb_formula.specs.Names.{place_of}
use Rattle.vkb_formula.specs.declared.formula.Formula.TheVariants as formula
use Rattle.vkb_formula.specs.declared.name_table.NameId.{NameId}
use Rattle.reg_registry.specs.declared.registry.Block.{Block}
use Rattle.reg_registry.specs.declared.registry.OptionRow.{OptionRow}
use Rattle.reg_registry.specs.declared.registry.Row.{Row}

-- the declared names with what is declared, the options with their rules, the blocks, and the tags of authors
pub record Rows : Type 0 where
  pub names : List (List ℕ)
  pub rows : List Row
  pub options : List (List ℕ)
  pub option_rows : List OptionRow
  pub blocks : List Block
  pub tags : List (List ℕ)

abbrev pub id_at : ℕ → NameId
id_at place = record { 0 = place }

-- the declared name of these bytes, if there is one
abbrev pub id_of : List (List ℕ) → List ℕ → Option NameId
id_of names name = option_map id_at (place_of name names)

-- an option that asks for nothing
abbrev pub free_option : OptionRow
free_option = record { version = None; depends = formula.Always; bit = None }

-- a registry that declares nothing, with free options
abbrev pub bare_rows : List (List ℕ) → Rows
bare_rows options = record { names = []; rows = []; options = options; option_rows = map (λ name. free_option) options; blocks = []; tags = [] }
