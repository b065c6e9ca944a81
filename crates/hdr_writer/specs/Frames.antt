-- For who writes the values of an enum type alone: what stands before and behind them in each declaration of it, and the line of each.
use Rattle.std.specs.Prelude.{◌≡◌, ℕ, Bool, List, [], ◌++◌, None, slice_get, IsSomeAnd}
use Rattle.std.specs.List.{flat_map}
use Rattle.std.specs.Option.{option_map_or}
use Rattle.vkb_formula.specs.declared.name_table.NameId.{NameId}
use Rattle.reg_registry.specs.Rows.{Rows}
use Rattle.reg_registry.specs.declared.kinds.Kind.TheVariants as kind
use Rattle.reg_registry.specs.declared.registry.Enumerant.{Enumerant}
use Rattle.hdr_writer.specs.Declarations.{declaration, name_at}
use Rattle.hdr_writer.specs.EnumTypes.{back_of, front_of, value_line}
use Rattle.hdr_writer.specs.Values.{active_blocks, values_at}

-- an enum type that is no alias is declared under the name
abbrev pub IsEnumType : Rows → NameId → Type 0
IsEnumType r id = IsSomeAnd (slice_get r.rows id.0) (λ row. (row.kind ≡ kind.EnumType) × (row.alias ≡ None))

-- its values, those that don't stand too
abbrev pub values_of : Rows → NameId → List Enumerant
values_of r id = option_map_or (λ row. row.values) (slice_get r.rows id.0) []

abbrev pub front_at : Rows → NameId → List ℕ
front_at r id = option_map_or (λ row. front_of row.shape (name_at r.names id)) (slice_get r.rows id.0) []

abbrev pub back_at : Rows → NameId → List ℕ
back_at r id = option_map_or (λ row. back_of row.shape r.tags (name_at r.names id)) (slice_get r.rows id.0) []

-- the line of a value
abbrev pub line_at : Rows → NameId → Enumerant → List ℕ
line_at r id e = option_map_or (λ row. value_line row.shape (name_at r.names id) e) (slice_get r.rows id.0) []

-- at each choice an enum type is declared by its front, the lines of the values that stand, and its back
abbrev pub EnumTypesAreFramed : Type 0
EnumTypesAreFramed =
    (r : Rows) (chosen : List Bool) (id : NameId) → IsEnumType r id
    → declaration r chosen id ≡ front_at r id ++ (flat_map (line_at r id) (values_at (active_blocks r.blocks chosen) (values_of r id)) ++ back_at r id)
