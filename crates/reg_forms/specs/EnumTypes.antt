-- Which names are those of enum types, while the types of a registry are read: two tables, each name in one of them.
use Rattle.std.specs.Prelude.{◌≡◌, ℕ, Bool, false, not, List, is_some, codes}
use Rattle.std.specs.List.{filter_map, find, flat_map}
use Rattle.std.specs.Option.{option_map_or}
use Rattle.std.specs.Str.{bytes_eq}
use Rattle.reg_reader.specs.Views.{Element}
use Rattle.vkb_formula.specs.Names.{place_of}
use Rattle.reg_forms.specs.declared.forms.Declaration.{Declaration}
use Rattle.reg_forms.specs.Attributes.{children}
use Rattle.reg_forms.specs.Declarations.{declaration_in, is_enum_row, is_enum_type, type_items}

-- the types that an element declares: one or none
abbrev pub rows_of : List ℕ → Element → List Declaration
rows_of api e = filter_map declaration_in (type_items api e)

-- the types that a block of types declares
abbrev pub rows_in : List ℕ → Element → List Declaration
rows_in api block = filter_map declaration_in (flat_map (type_items api) (children (codes "type") block))

-- the first of these types that has the name is another type, or an alias
abbrev pub is_other_type : List Declaration → List ℕ → Bool
is_other_type rows name = option_map_or (λ row. not (is_enum_row row)) (find (λ row. bytes_eq row.name name) rows) false

-- the tables have the names of these types
pub record AreNamesOf (rows : List Declaration) (enums others : List (List ℕ)) : Type 0 where
  pub of_enums : (name : List ℕ) → is_some (place_of name enums) ≡ is_enum_type rows name
  pub of_others : (name : List ℕ) → is_some (place_of name others) ≡ is_other_type rows name
