-- Types and commands: which elements declare one, and what it is (registry manual, the tags `type` and `command`).
use Rattle.std.specs.Prelude.{ℕ, Bool, true, false, not, ◌&&◌, ◌||◌, List, [], ◌∷◌, ◌++◌, map, Option, Some, None, is_some, is_none, codes, if◌then◌else◌}
use Rattle.std.specs.List.{filter_map, find, flat_map}
use Rattle.std.specs.Option.{option_map_or, option_or}
use Rattle.std.specs.Str.{bytes_eq}
use Rattle.vkb_bytes.specs.Trimming.{trim}
use Rattle.reg_registry.specs.declared.kinds.Kind.{Kind}
use Rattle.reg_registry.specs.declared.kinds.Kind.TheVariants as kind
use Rattle.reg_reader.specs.Views.{Element}
use Rattle.reg_forms.specs.declared.forms.Declaration.{Declaration}
use Rattle.reg_forms.specs.declared.forms.Mention.{Mention}
use Rattle.reg_forms.specs.declared.forms.Sort.TheVariants as sort
use Rattle.reg_forms.specs.Attributes.{child, children, counts, has, has_value, name_of, parts_of, text_of, value_of, word_if}
use Rattle.reg_forms.specs.Items.{Item, unless_bad}
use Rattle.reg_forms.specs.Parts.{inner_mentions, member_of, mention_in, mention_of, name_inside, part_faults, proto_in, result_of, sound_members}

-- the kind that a category names
abbrev pub kind_named : List ℕ → Option Kind
kind_named text =
    if bytes_eq text (codes "include") then Some kind.Include
    else if bytes_eq text (codes "define") then Some kind.Define
    else if bytes_eq text (codes "basetype") then Some kind.Base
    else if bytes_eq text (codes "bitmask") then Some kind.Bitmask
    else if bytes_eq text (codes "handle") then Some kind.Handle
    else if bytes_eq text (codes "enum") then Some kind.EnumType
    else if bytes_eq text (codes "funcpointer") then Some kind.FuncPointer
    else if bytes_eq text (codes "struct") then Some kind.Struct
    else if bytes_eq text (codes "union") then Some kind.Union
    else None

-- the kind of a type: none where its category is none of these
abbrev pub kind_of : Element → Option Kind
kind_of e = option_map_or kind_named (value_of (codes "category") e) (Some kind.External)

-- the name that a type without the attribute has in its text: that of its prototype, where it has one
abbrev pub name_in_text : Kind → Element → Option (List ℕ)
name_in_text kind e = option_map_or name_inside (proto_in kind e) (name_inside e)

-- the name of a type, where it has one
abbrev pub type_name : Kind → Element → Option (List ℕ)
type_name kind e = if has (codes "name") e || has (codes "alias") e then name_of e else name_in_text kind e

-- the name is looked for in a prototype, which is at fault where it has none
abbrev pub is_named_within : Kind → Element → Bool
is_named_within kind e = not (has (codes "name") e || has (codes "alias") e) && is_some (proto_in kind e)

abbrev pub type_words : Element → List (List ℕ)
type_words e =
    word_if (is_none (kind_of e)) (codes "category")
    ++ word_if (option_map_or (λ kind. is_none (type_name kind e) && not (is_named_within kind e)) (kind_of e) false) (codes "name")

-- the type of a bitmask's bits
abbrev pub bits_of : Kind → Element → Option (List ℕ)
bits_of kind.Bitmask e = option_or (value_of (codes "bitvalues") e) (value_of (codes "requires") e)
bits_of _ e = None

-- what a type mentions
abbrev pub type_mentions : List ℕ → Kind → Element → List Mention
type_mentions api kind e =
    mention_in (codes "alias") sort.Type e ++ mention_in (codes "requires") sort.Type e ++ mention_in (codes "bitvalues") sort.Type e
    ++ (if has (codes "alias") e then [] else map (mention_of sort.Type) (children (codes "type") e) ++ inner_mentions api kind e)

-- what an element of a type says under a name
abbrev pub type_row : List ℕ → Kind → Element → List ℕ → Declaration
type_row api kind e name = record {
  place = e.place;
  name = name;
  kind = kind;
  alias = value_of (codes "alias") e;
  text = if has (codes "alias") e then [] else trim (text_of e);
  result = if has (codes "alias") e then [] else result_of kind e;
  prototyped = if has (codes "alias") e then false else is_some (proto_in kind e);
  returned = has_value (codes "returnedonly") (codes "true") e;
  bits = bits_of kind e;
  extends = option_map_or parts_of (value_of (codes "structextends") e) [];
  members = if has (codes "alias") e then [] else map member_of (sound_members api kind e);
  mentions = type_mentions api kind e;
}

-- What an element declares under a name. Where a prototype is at fault for the name, it declares nothing, and what it mentions
-- stands all the same.
abbrev pub declared : (List ℕ → Declaration) → List Mention → Option (List ℕ) → List Item
declared row mentions (Some name) = Item.declares (row name) ∷ []
declared row mentions None = map Item.mentions mentions

-- what a type of a kind says
abbrev pub kind_items : List ℕ → Element → Kind → List Item
kind_items api e kind =
    (if has (codes "alias") e then [] else part_faults api kind e)
    ++ declared (type_row api kind e) (type_mentions api kind e) (type_name kind e)

abbrev pub type_items : List ℕ → Element → List Item
type_items api e =
    if counts api e then unless_bad e (type_words e) (option_map_or (kind_items api e) (kind_of e) []) else []

-- the name of a command: the attribute of an alias, and else that of the prototype
abbrev pub command_name : Element → Option (List ℕ)
command_name e = if has (codes "alias") e then name_of e else option_map_or name_inside (child (codes "proto") e) None

abbrev pub command_words : Element → List (List ℕ)
command_words e =
    if has (codes "alias") e then word_if (is_none (name_of e)) (codes "name")
    else word_if (is_none (child (codes "proto") e)) (codes "proto")

abbrev pub command_mentions : List ℕ → Element → List Mention
command_mentions api e =
    if has (codes "alias") e then mention_in (codes "alias") sort.Command e else inner_mentions api kind.Command e

abbrev pub command_row : List ℕ → Element → List ℕ → Declaration
command_row api e name = record {
  place = e.place;
  name = name;
  kind = kind.Command;
  alias = value_of (codes "alias") e;
  text = [];
  result = if has (codes "alias") e then [] else result_of kind.Command e;
  prototyped = not (has (codes "alias") e);
  returned = false;
  bits = None;
  extends = [];
  members = if has (codes "alias") e then [] else map member_of (sound_members api kind.Command e);
  mentions = command_mentions api e;
}

abbrev pub command_items : List ℕ → Element → List Item
command_items api e =
    if counts api e then unless_bad e (command_words e)
    ((if has (codes "alias") e then [] else part_faults api kind.Command e)
    ++ declared (command_row api e) (command_mentions api e) (command_name e))
    else []

-- the elements of the types of a registry, in order
abbrev pub types_in : Element → List Element
types_in root = flat_map (children (codes "type")) (children (codes "types") root)

-- the declaration in an item, if it is one
abbrev pub declaration_in : Item → Option Declaration
declaration_in (Item.declares declaration) = Some declaration
declaration_in _ = None

-- the types that the registry declares for the API
abbrev pub type_rows : List ℕ → Element → List Declaration
type_rows api root = filter_map declaration_in (flat_map (type_items api) (types_in root))

abbrev pub is_enum_kind : Kind → Bool
is_enum_kind kind.EnumType = true
is_enum_kind _ = false

-- an enum type that is no alias
abbrev pub is_enum_row : Declaration → Bool
is_enum_row row = is_enum_kind row.kind && is_none row.alias

-- the first of these types that has the name is an enum type and no alias
abbrev pub is_enum_type : List Declaration → List ℕ → Bool
is_enum_type rows name = option_map_or is_enum_row (find (λ row. bytes_eq row.name name) rows) false
