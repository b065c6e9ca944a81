-- What a registry declares that has no faults.
use Rattle.std.specs.Prelude.{ℕ, ◌+◌, Bool, true, false, not, ◌&&◌, ◌==◌, pos, List, [], ◌∷◌, ◌++◌, filter, length, map, Option, Some, None, is_none, is_some, option_map, codes, slice_get, take, if◌then◌else◌}
use Rattle.std.specs.List.{filter_map, list_any}
use Rattle.std.specs.Option.{option_and_then, option_map_or, unwrap_or}
use Rattle.std.specs.Str.{bytes_eq}
use Rattle.vkb_formula.specs.Expressions.{Expression, formula_of}
use Rattle.vkb_formula.specs.Names.{place_of}
use Rattle.vkb_formula.specs.declared.formula.Formula.{Formula}
use Rattle.vkb_formula.specs.declared.formula.Formula.TheVariants as formula
use Rattle.vkb_formula.specs.declared.name_table.NameId.{NameId}
use Rattle.reg_registry.specs.declared.registry.Block.{Block}
use Rattle.reg_registry.specs.declared.registry.Enumerant.{Enumerant}
use Rattle.reg_registry.specs.declared.registry.Member.{Member}
use Rattle.reg_registry.specs.declared.registry.OptionRow.{OptionRow}
use Rattle.reg_registry.specs.declared.registry.Row.{Row}
use Rattle.reg_registry.specs.Rows.{Rows, id_at, id_of}
use Rattle.reg_forms.specs.Declarations.{is_enum_row}
use Rattle.reg_forms.specs.declared.forms.BlockForm.{BlockForm}
use Rattle.reg_forms.specs.declared.forms.Declaration.{Declaration}
use Rattle.reg_forms.specs.declared.forms.EntryForm.{EntryForm}
use Rattle.reg_forms.specs.declared.forms.EnumForm.{EnumForm}
use Rattle.reg_forms.specs.declared.forms.Forms.{Forms}
use Rattle.reg_forms.specs.declared.forms.MemberForm.{MemberForm}
use Rattle.reg_forms.specs.declared.forms.OptionForm.{OptionForm}
use Rattle.reg_forms.specs.declared.forms.Sort.TheVariants as sort
use Rattle.reg_tables.specs.Bits.{Atom, Readings, bits_of, member_in, options_of, owner_in}
use Rattle.reg_tables.specs.Lists.{firsts}
use Rattle.reg_tables.specs.Tables.{extensions_in, features_in, is_mask64, is_sort, shape_of}
use Rattle.reg_tables.specs.Values.{alias_of, last_of, value_of}
use Rattle.reg_rows.specs.Lists.{each_number}

-- The same where there is one: in a registry without faults there is.
abbrev pub id_of_known : List (List ℕ) → List ℕ → NameId
id_of_known names name = unwrap_or (id_of names name) (id_at 0)

-- the declarations, each the first of its name
abbrev pub declared_in : Forms → List Declaration
declared_in f = firsts (λ d. d.name) f.declarations

abbrev pub names_in : Forms → List (List ℕ)
names_in f = map (λ d. d.name) (declared_in f)

abbrev pub member_row : List (List ℕ) → MemberForm → Member
member_row names m = record {
  name = m.name;
  text = m.text;
  base = id_of_known names m.base;
  stars = m.stars;
  values = m.values;
  len = m.len;
  optional = m.optional;
  silent = m.silent;
}

-- the entry names this as a value, in a block of this kind
abbrev pub lists_value : Forms → Bool → List ℕ → EntryForm → Bool
lists_value f adds name entry =
    is_sort sort.Value entry.mention.sort && bytes_eq name entry.mention.name
    && option_map_or (λ block. if adds then block.adds else not block.adds) (slice_get f.blocks entry.block) false

-- the places of the blocks of this kind that list a value
abbrev pub blocks_with : Forms → Bool → List ℕ → List ℕ
blocks_with f adds name = each_number (map (λ entry. entry.block) (filter (lists_value f adds name) f.entries))

-- an enumerant, from its first row
abbrev pub enumerant_row : Forms → EnumForm → Enumerant
enumerant_row f e = record {
  name = e.name;
  number = unwrap_or (value_of f e) (pos 0);
  end = if is_some (alias_of e) then option_map (λ last. last.name) (last_of f e) else None;
  always = list_any (λ other. other.base && bytes_eq e.name other.name) f.enumerants;
  required = blocks_with f true e.name;
  removed = blocks_with f false e.name;
}

-- the enumerants of a type, each at the place of its first row
abbrev pub values_of : Forms → Declaration → List Enumerant
values_of f d =
    if is_enum_row d then map (enumerant_row f) (filter (λ e. bytes_eq d.name e.of) (firsts (λ e. e.name) f.enumerants)) else []

-- all names that a declaration names, as it mentions them
abbrev pub mentioned : Forms → Declaration → List (List ℕ)
mentioned f d = map (λ m. m.name) d.mentions ++ (if is_mask64 (shape_of f d) then codes "VkFlags64" ∷ [] else [])

-- the other names that it names, each once
abbrev pub named_of : Forms → Declaration → List NameId
named_of f d =
    map id_at (each_number (filter_map (λ name. place_of name (names_in f)) (filter (λ name. not (bytes_eq d.name name)) (mentioned f d))))

abbrev pub row_of : Forms → Declaration → Row
row_of f d = record {
  kind = d.kind;
  alias = option_and_then (id_of (names_in f)) d.alias;
  text = d.text;
  result = d.result;
  prototyped = d.prototyped;
  members = map (member_row (names_in f)) d.members;
  bits = option_and_then (id_of (names_in f)) d.bits;
  shape = shape_of f d;
  returned = d.returned;
  extends = filter_map (id_of (names_in f)) d.extends;
  values = values_of f d;
  named = named_of f d;
}

abbrev pub option_names : Forms → Readings → List (List ℕ)
option_names f readings = map (λ atom. atom.1) (options_of f readings)

-- the formula of a text, where it is an expression
abbrev pub formula_in : List (List ℕ) → Option Expression → Formula
formula_in options reading = option_map_or (formula_of options) reading formula.Always

-- the formula of the text at a place, and of no text what is always true
abbrev pub formula_at : List (List ℕ) → Readings → Option ℕ → Formula
formula_at options readings place =
    option_map_or (λ reading. formula_in options reading.1) (option_and_then (slice_get readings) place) formula.Always

abbrev pub option_row : List (List ℕ) → Readings → OptionForm → OptionRow
option_row options readings o = record { version = o.version; depends = formula_at options readings o.depends; bit = None }

abbrev pub bit_row : List (List ℕ) → Atom → OptionRow
bit_row names atom = record { version = None; depends = formula.Always; bit = Some (id_of_known names (owner_in atom.1), member_in atom.1) }

abbrev pub option_rows_of : Forms → Readings → List OptionRow
option_rows_of f readings =
    map (option_row (option_names f readings) readings) (features_in f ++ extensions_in f) ++ map (bit_row (names_in f)) (bits_of f readings)

-- the place among the options of one that stands in the text at a place: features go before extensions
abbrev pub option_place : Forms → ℕ → ℕ
option_place f place =
    option_map_or (λ o. if is_some o.version then length (filter (λ other. is_some other.version) (take place f.options))
    else length (features_in f) + length (filter (λ other. is_none other.version) (take place f.options)))
    (slice_get f.options place) 0

-- the declared names that the block at a place lists, each once
abbrev pub listed_at : Forms → ℕ → List NameId
listed_at f place =
    map id_at (each_number (filter_map (λ entry. place_of entry.mention.name (names_in f)) (filter (λ entry. entry.block == place) f.entries)))

abbrev pub block_row : Forms → Readings → ℕ → BlockForm → Block
block_row f readings place b = record {
  owner = option_place f b.owner;
  depends = formula_at (option_names f readings) readings b.depends;
  adds = b.adds;
  lists = listed_at f place;
}

-- blocks in order, from a place on
abbrev pub block_rows : Forms → Readings → ℕ → List BlockForm → List Block
block_rows f readings place [] = []
block_rows f readings place (b ∷ more) = block_row f readings place b ∷ block_rows f readings (place + 1) more

-- what a registry declares that comes to these forms
abbrev pub rows_of : Forms → Readings → Rows
rows_of f readings = record {
  names = names_in f;
  rows = map (row_of f) (declared_in f);
  options = option_names f readings;
  option_rows = option_rows_of f readings;
  blocks = block_rows f readings 0 f.blocks;
  tags = f.tags;
}
