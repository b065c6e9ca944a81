-- Lists that grow along the forms of a registry while its rows are built, for private contracts alone. No public contract names it.
use Rattle.std.specs.Prelude.{◌≡◌, ℕ, ◌-◌, ◌<◌, ◌≤◌, Bool, false, not, ◌&&◌, ◌==◌, List, [], ◌∷◌, ◌++◌, All, codes, filter, length, map, Option, Some, None, slice_get, slice_index_or, if◌then◌else◌}
use Rattle.std.specs.List.{filter_map, list_any, position}
use Rattle.std.specs.Option.{option_and_then, option_map_or}
use Rattle.std.specs.Str.{bytes_eq}
use Rattle.vkb_formula.specs.Names.{place_of}
use Rattle.vkb_formula.specs.declared.name_table.NameId.{NameId}
use Rattle.reg_registry.specs.declared.kinds.Shape.{Shape}
use Rattle.reg_registry.specs.Rows.{id_at}
use Rattle.reg_registry.specs.declared.registry.Enumerant.{Enumerant}
use Rattle.reg_forms.specs.Declarations.{is_enum_row}
use Rattle.reg_forms.specs.declared.forms.Declaration.{Declaration}
use Rattle.reg_forms.specs.declared.forms.EntryForm.{EntryForm}
use Rattle.reg_forms.specs.declared.forms.EnumForm.{EnumForm}
use Rattle.reg_forms.specs.declared.forms.Forms.{Forms}
use Rattle.reg_forms.specs.declared.forms.Sort.TheVariants as sort
use Rattle.reg_tables.specs.Lists.{firsts}
use Rattle.reg_tables.specs.Tables.{declaration_of, is_mask64, is_sort}
use Rattle.reg_rows.specs.Built.{IsFirstRow}
use Rattle.reg_rows.specs.Lists.{each_number}
use Rattle.reg_rows.specs.Rows.{declared_in, enumerant_row, lists_value}

-- a row of each enumerant, among these rows, stands in the block of its type
abbrev pub AreAlways : Forms → List EnumForm → List Bool → Type 0
AreAlways f so_far always =
    (place : ℕ) (e : EnumForm) → IsFirstRow f place e
    → slice_get always place ≡ Some (list_any (λ other. other.base && bytes_eq e.name other.name) so_far)

-- the number is the last of the list
abbrev pub is_end : List ℕ → ℕ → Bool
is_end list n = option_map_or (λ last. last == n) (slice_get list (length list - 1)) false

-- The list has each of these numbers once. Of numbers that none of them is above, those are in it that end it.
pub record AreListed (so_far list : List ℕ) : Type 0 where
  pub are : list ≡ each_number so_far
  pub ends : (n : ℕ) → All (λ other. other ≤ n) so_far → list_any (λ other. other == n) so_far ≡ is_end list n

-- the place of the enumerant that an entry lists, in a block of this kind
abbrev pub value_place : Forms → Bool → EntryForm → Option ℕ
value_place f adds entry =
    if is_sort sort.Value entry.mention.sort
    && option_map_or (λ block. if adds then block.adds else not block.adds) (slice_get f.blocks entry.block) false
    then position (λ e. bytes_eq entry.mention.name e.name) f.enumerants
    else None

-- for each enumerant, the blocks of this kind that these entries list it in
pub record AreLists (f : Forms) (adds : Bool) (so_far : List EntryForm) (lists : List (List ℕ)) : Type 0 where
  pub one_each : length lists ≡ length f.enumerants
  pub each : (place : ℕ) (e : EnumForm) → IsFirstRow f place e
      → AreListed (map (λ entry. entry.block) (filter (lists_value f adds e.name) so_far)) (slice_index_or lists place [])

-- the place among declared names of an enum type that is no alias
abbrev pub enum_place : Forms → List (List ℕ) → List ℕ → Option ℕ
enum_place f names name = option_and_then (λ d. if is_enum_row d then place_of name names else None) (declaration_of f name)

-- the enumerants of a type among these rows, each at the place of its first row
abbrev pub values_among : Forms → Declaration → List EnumForm → List Enumerant
values_among f d so_far =
    if is_enum_row d then map (enumerant_row f) (filter (λ e. bytes_eq d.name e.of) (firsts (λ e. e.name) so_far)) else []

-- from a place on, what stands at the place of a declared name are its enumerants among these rows
pub record AreByType (f : Forms) (from : ℕ) (so_far : List EnumForm) (by_type : List (List Enumerant)) : Type 0 where
  pub one_each : length by_type ≡ length (declared_in f)
  pub each : (place : ℕ) (d : Declaration) → from ≤ place → slice_get (declared_in f) place ≡ Some d
      → slice_index_or by_type place [] ≡ values_among f d so_far

-- all names that a declaration of this shape names
abbrev pub mentioned_by : Declaration → Shape → List (List ℕ)
mentioned_by d shape = map (λ m. m.name) d.mentions ++ (if is_mask64 shape then codes "VkFlags64" ∷ [] else [])

-- the places of the declared names among these, but for one name
abbrev pub places_besides : List (List ℕ) → List ℕ → List (List ℕ) → List ℕ
places_besides names own mentioned = filter_map (λ name. place_of name names) (filter (λ name. not (bytes_eq own name)) mentioned)

-- all marks are from rounds before
abbrev pub AreBefore : ℕ → List ℕ → Type 0
AreBefore round marks = (place : ℕ) → slice_index_or marks place 0 < round

-- the places so far are marked in this round, and each of them stands once among the ids
pub record AreMarked (round : ℕ) (so_far marks : List ℕ) (ids : List NameId) : Type 0 where
  pub none_later : (place : ℕ) → slice_index_or marks place 0 ≤ round
  pub marked : (place : ℕ) → (slice_index_or marks place 0 == round) ≡ list_any (λ other. other == place) so_far
  pub ids_are : ids ≡ map id_at (each_number so_far)
