-- What is kept of texts, aliases and members while bits are looked for, for private contracts alone. No public contract names it.
use Rattle.std.specs.Prelude.{◌≡◌, ℕ, ◌<◌, List, Option, Some, None, All, IfSome, option_map, map, length, slice_get, ◌&&◌, is_none, if◌then◌else◌, []}
use Rattle.std.specs.List.{position}
use Rattle.std.specs.Option.{option_and_then, option_flatten}
use Rattle.std.specs.Str.{bytes_eq}
use Rattle.vkb_formula.specs.Expressions.{Expression, names_of, places_of}
use Rattle.reg_forms.specs.declared.forms.Declaration.{Declaration}
use Rattle.reg_forms.specs.declared.forms.Forms.{Forms}
use Rattle.reg_tables.specs.Bits.{Atom, atom_of, is_struct_kind, last_declared}
use Rattle.reg_tables.specs.Lists.{each_name, firsts}
use Rattle.reg_tables.specs.Tables.{declaration_of}
use Rattle.reg_tables.specs.Words.{HasNames, IsReadAs}
use Rattle.reg_tables.specs.declared.bits.Bit.{Bit}

-- the text is read so, and these are the places of its names, where it is an expression
pub record IsRead (text : List ℕ) (words : Option (List (ℕ × ℕ))) : Type 0 where
  pub reading : Option Expression
  pub is_read : IsReadAs text reading
  pub words_are : words ≡ option_map (places_of 0) reading
  pub named : IfSome reading (λ e. HasNames text (places_of 0 e) (names_of e))

-- a table of the names of these, and the bits, each the first of its name
pub record ArePut (atoms : List Atom) (seen : List (List ℕ)) (bits : List Bit) : Type 0 where
  pub seen_are : seen ≡ map (λ atom. atom.1) (firsts (λ atom. atom.1) atoms)
  pub bits_are : map atom_of bits ≡ firsts (λ atom. atom.1) atoms

-- the place of what a type is an alias of
abbrev pub aliased_at : Forms → Declaration → Option ℕ
aliased_at f d = option_and_then (λ alias. position (λ other. bytes_eq alias other.name) f.declarations) d.alias

-- the place of the last declaration of each chain of aliases
pub record AreLasts (f : Forms) (lasts : List (Option ℕ)) : Type 0 where
  pub count : length lasts ≡ length f.declarations
  pub lasts_are : (place : ℕ) (d : Declaration) → slice_get f.declarations place ≡ Some d
      → option_and_then (slice_get f.declarations) (option_flatten (slice_get lasts place)) ≡ last_declared f d
  pub within : All (λ last. IfSome last (λ place. place < length f.declarations)) lasts

-- the last declaration of a chain of aliases that begins with a struct of this name
abbrev pub last_struct_of : Forms → List ℕ → Option Declaration
last_struct_of f owner = option_and_then (λ d. if is_struct_kind d.kind then last_declared f d else None) (declaration_of f owner)

-- the names of the members of a struct that is no alias; none of all else
abbrev pub members_table : Declaration → List (List ℕ)
members_table d = if is_struct_kind d.kind && is_none d.alias then each_name (map (λ member. member.name) d.members) else []
