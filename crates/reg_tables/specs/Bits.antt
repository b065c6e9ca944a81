-- The options of a registry: features, extensions, and the members of structs that `depends` texts name (registry manual, the attribute
-- `depends`). That each such member is an option of its own, called a bit, is this tool's own rule.
use Rattle.std.specs.Prelude.{ℕ, ◌+◌, Bool, true, false, ◌&&◌, ◌==◌, zero, suc, List, [], ◌∷◌, ◌++◌, drop, length, map, filter, Option, Some, None, is_none, if◌then◌else◌}
use Rattle.std.specs.List.{flat_map, list_any}
use Rattle.std.specs.Option.{option_and_then, option_map_or}
use Rattle.std.specs.Str.{bytes_eq}
use Rattle.vkb_formula.specs.Expressions.{Expression, names_of}
use Rattle.reg_registry.specs.declared.kinds.Kind.{Kind}
use Rattle.reg_registry.specs.declared.kinds.Kind.TheVariants.{Struct}
use Rattle.reg_forms.specs.declared.forms.Declaration.{Declaration}
use Rattle.reg_forms.specs.declared.forms.DependsText.{DependsText}
use Rattle.reg_forms.specs.declared.forms.Forms.{Forms}
use Rattle.reg_tables.specs.Lists.{firsts}
use Rattle.reg_tables.specs.Tables.{declaration_of, extensions_in, features_in}
use Rattle.reg_tables.specs.declared.bits.Bit.{Bit}

-- each text of a `depends` with the expression that it is, or with none
abbrev pub Readings : Type 0
Readings = List (DependsText × Option Expression)

-- a name in an expression, and the place of the element in which it stands
abbrev pub Atom : Type 0
Atom = ℕ × List ℕ

abbrev pub atoms_in : DependsText × Option Expression → List Atom
atoms_in reading = map (λ name. (reading.0.place, name)) (option_map_or names_of reading.1 [])

-- what stands before the first `:` of a name, and what stands behind the one after it
abbrev pub owner_in : List ℕ → List ℕ
owner_in [] = []
owner_in (byte ∷ rest) = if byte == 58 then [] else byte ∷ owner_in rest

abbrev pub member_in : List ℕ → List ℕ
member_in name = drop (length (owner_in name) + 2) name

abbrev pub is_member_name : List ℕ → Bool
is_member_name name = list_any (λ byte. byte == 58) name

abbrev pub is_struct_kind : Kind → Bool
is_struct_kind Struct = true
is_struct_kind _ = false

-- what a type is an alias of
abbrev pub aliased : Forms → Declaration → Option Declaration
aliased f d = option_and_then (declaration_of f) d.alias

-- The last declaration of a chain of aliases, where the chain ends. So many steps are enough, as none comes twice in a chain that ends.
abbrev pub last_declared_in : ℕ → Forms → Declaration → Option Declaration
last_declared_in zero f d = None
last_declared_in (suc n) f d = option_map_or (last_declared_in n f) (aliased f d) (Some d)

abbrev pub last_declared : Forms → Declaration → Option Declaration
last_declared f d = last_declared_in (length f.declarations + 1) f d

-- the struct has a member of this name
abbrev pub has_member : List ℕ → Declaration → Bool
has_member name d = is_struct_kind d.kind && is_none d.alias && list_any (λ member. bytes_eq name member.name) d.members

-- the name is that of a member of a declared struct, or of the struct that this is an alias of
abbrev pub is_bit : Forms → List ℕ → Bool
is_bit f name =
    is_member_name name
    && option_map_or (λ d. is_struct_kind d.kind && option_map_or (has_member (member_in name)) (last_declared f d) false)
    (declaration_of f (owner_in name)) false

-- the bits, each with the place of the element that mentions it first
abbrev pub bits_of : Forms → Readings → List Atom
bits_of f readings = firsts (λ atom. atom.1) (filter (λ atom. is_bit f atom.1) (flat_map atoms_in readings))

-- the options in their order, each with the place of its element: features, extensions, bits
abbrev pub options_of : Forms → Readings → List Atom
options_of f readings =
    map (λ o. (o.place, o.name)) (features_in f) ++ map (λ o. (o.place, o.name)) (extensions_in f) ++ bits_of f readings

-- a bit as its name with the place of the element that mentions it first
abbrev pub atom_of : Bit → Atom
atom_of bit = (bit.place, bit.name)
