-- The names of a document that are set, as a value for each: for private contracts alone.
use Rattle.std.specs.Prelude.{Bool, false, List, slice_index_or}
use Rattle.vkb_formula.specs.declared.name_table.NameId.{NameId}

-- the name of a number is set
abbrev pub is_on : List Bool → NameId → Bool
is_on set name = slice_index_or set name.0 false
