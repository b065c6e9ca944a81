-- The header that declares names at a choice, in the form of `vulkan_core.h`.
use Rattle.std.specs.Prelude.{ℕ, Bool, true, false, not, ◌&&◌, List, [], ◌∷◌, ◌++◌, codes, filter, length, slice_get, slice_index_or, is_some}
use Rattle.std.specs.List.{flat_map, range_with_len}
use Rattle.std.specs.Option.{option_map_or}
use Rattle.vkb_formula.specs.declared.name_table.NameId.{NameId}
use Rattle.reg_registry.specs.Rows.{Rows}
use Rattle.reg_registry.specs.declared.kinds.Kind.{Kind}
use Rattle.reg_registry.specs.declared.kinds.Kind.TheVariants as kind
use Rattle.hdr_writer.specs.Declarations.{declaration_with}
use Rattle.hdr_writer.specs.Lines.{line}
use Rattle.hdr_writer.specs.Values.{active_blocks}

abbrev pub prologue : List ℕ
prologue = line (codes "#ifndef VULKAN_CORE_H_" ∷ []) ++ line (codes "#define VULKAN_CORE_H_ 1" ∷ [])

-- the option at a place is chosen and no bit
abbrev pub is_defined : Rows → List Bool → ℕ → Bool
is_defined r chosen place =
    slice_index_or chosen place false && not (option_map_or (λ o. is_some o.bit) (slice_get r.option_rows place) false)

abbrev pub define_line : Rows → ℕ → List ℕ
define_line r place = line (codes "#define " ∷ slice_index_or r.options place [] ∷ codes " 1" ∷ [])

-- a line for each chosen feature and extension, in the order of the options
abbrev pub defines : Rows → List Bool → List ℕ
defines r chosen = flat_map (define_line r) (filter (is_defined r chosen) (range_with_len 0 (length r.options)))

abbrev pub is_command_kind : Kind → Bool
is_command_kind kind.Command = true
is_command_kind _ = false

abbrev pub is_command : Rows → NameId → Bool
is_command r id = option_map_or (λ row. is_command_kind row.kind) (slice_get r.rows id.0) false

-- the declarations of names, where these blocks are active: first those of all that are no commands, then the commands
abbrev pub declarations : Rows → List Bool → List NameId → List ℕ
declarations r active order =
    flat_map (declaration_with r active) (filter (λ id. not (is_command r id)) order) ++ flat_map (declaration_with r active) (filter (is_command r) order)

abbrev pub header : Rows → List Bool → List NameId → List ℕ
header r chosen order =
    prologue ++ defines r chosen ++ declarations r (active_blocks r.blocks chosen) order ++ line (codes "#endif" ∷ [])
