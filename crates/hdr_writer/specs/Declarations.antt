-- How a name is declared in C at a choice. The texts are those of the registry and the form that of `vulkan_core.h`; where spaces and line ends stand
-- is this tool's own rule.
use Rattle.std.specs.Prelude.{ℕ, Bool, true, false, List, [], ◌∷◌, ◌++◌, codes, slice_get, slice_index_or, Option, Some, None}
use Rattle.std.specs.List.{flat_map, join_by}
use Rattle.std.specs.Option.{option_map_or}
use Rattle.vkb_formula.specs.declared.name_table.NameId.{NameId}
use Rattle.reg_registry.specs.Rows.{Rows}
use Rattle.reg_registry.specs.declared.kinds.Kind.{Kind}
use Rattle.reg_registry.specs.declared.kinds.Kind.TheVariants as kind
use Rattle.reg_registry.specs.declared.registry.Member.{Member}
use Rattle.reg_registry.specs.declared.registry.Row.{Row}
use Rattle.hdr_writer.specs.Aliases.{end_of}
use Rattle.hdr_writer.specs.EnumTypes.{enum_type}
use Rattle.hdr_writer.specs.Lines.{line}
use Rattle.hdr_writer.specs.Values.{active_blocks}

-- the name at a place
abbrev pub name_at : List (List ℕ) → NameId → List ℕ
name_at names id = slice_index_or names id.0 []

-- the parameters with commas between them, or `void`
abbrev pub parameters : List Member → List ℕ
parameters [] = codes "void"
parameters (m ∷ more) = join_by (λ p. p.text) (codes ", ") (m ∷ more)

-- the type of a pointer to a function of this result and these parameters
abbrev pub pointer_line : List ℕ → List ℕ → List ℕ → List ℕ
pointer_line name result parameters =
    line (codes "typedef " ∷ result ∷ codes " (VKAPI_PTR *" ∷ name ∷ codes ")(" ∷ parameters ∷ codes ");" ∷ [])

-- the pointer to a command, and the command
abbrev pub command : List ℕ → Row → List ℕ
command name row =
    pointer_line (codes "PFN_" ++ name) row.result (parameters row.members)
    ++ line (codes "VKAPI_ATTR " ∷ row.result ∷ codes " VKAPI_CALL " ∷ name ∷ codes "(" ∷ parameters row.members ∷ codes ");" ∷ [])

-- a struct or a union, by its word
abbrev pub aggregate : List ℕ → List ℕ → List Member → List ℕ
aggregate word name members =
    line (codes "typedef " ∷ word ∷ codes " " ∷ name ∷ codes " {" ∷ [])
    ++ (flat_map (λ m. line (codes "    " ∷ m.text ∷ codes ";" ∷ [])) members ++ line (codes "} " ∷ name ∷ codes ";" ∷ []))

-- the text of an include, or what it comes to where that is empty
abbrev pub include : List ℕ → List ℕ → List ℕ
include name [] = line (codes "#include <" ∷ name ∷ codes ">" ∷ [])
include name (byte ∷ rest) = line ((byte ∷ rest) ∷ [])

-- a function pointer, whose text is its declaration where it has no prototype
abbrev pub func_pointer : List ℕ → Row → Bool → List ℕ
func_pointer name row true = pointer_line name row.result (parameters row.members)
func_pointer name row false = line (row.text ∷ [])

-- a type that is no alias
abbrev pub own_type : Rows → List Bool → List ℕ → Row → Kind → List ℕ
own_type r active name row kind.Include = include name row.text
own_type r active name row kind.Define = line (row.text ∷ [])
own_type r active name row kind.Base = line (row.text ∷ [])
own_type r active name row kind.Bitmask = line (row.text ∷ [])
own_type r active name row kind.Handle = line (row.text ∷ [])
own_type r active name row kind.EnumType = enum_type r.tags active row.shape name row.values
own_type r active name row kind.FuncPointer = func_pointer name row row.prototyped
own_type r active name row kind.Struct = aggregate (codes "struct") name row.members
own_type r active name row kind.Union = aggregate (codes "union") name row.members
own_type r active name row _ = []

-- a type that the registry defines, of whatever kind it is an alias
abbrev pub any_type : Rows → List Bool → List ℕ → Row → Option NameId → List ℕ
any_type r active name row None = own_type r active name row row.kind
any_type r active name row (Some other) = line (codes "typedef " ∷ name_at r.names other ∷ codes " " ∷ name ∷ codes ";" ∷ [])

-- what is declared under a name, by its kind; a command that is an alias has the result and the parameters of the end of its chain
abbrev pub declared : Rows → List Bool → List ℕ → Row → Kind → List ℕ
declared r active name row kind.External = []
declared r active name row kind.Constant =
    line (codes "#define " ∷ name ∷ codes " " ∷ option_map_or (name_at r.names) row.alias row.text ∷ [])
declared r active name row kind.Command = command name (end_of r.rows row)
declared r active name row _ = any_type r active name row row.alias

-- the declaration of a name where these blocks are active
abbrev pub declaration_with : Rows → List Bool → NameId → List ℕ
declaration_with r active id = option_map_or (λ row. declared r active (name_at r.names id) row row.kind) (slice_get r.rows id.0) []

-- the declaration of a name at a choice
abbrev pub declaration : Rows → List Bool → NameId → List ℕ
declaration r chosen id = declaration_with r (active_blocks r.blocks chosen) id
