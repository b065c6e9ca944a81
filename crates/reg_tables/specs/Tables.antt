-- What is found under a name in the forms of a registry: the first thing of that name.
use Rattle.std.specs.Prelude.{ℕ, Bool, true, false, ◌&&◌, ◌||◌, List, Option, is_some, is_none, filter, if◌then◌else◌}
use Rattle.std.specs.List.{find, list_any}
use Rattle.std.specs.Option.{option_map_or}
use Rattle.std.specs.Str.{bytes_eq}
use Rattle.reg_registry.specs.declared.kinds.Kind.{Kind}
use Rattle.reg_registry.specs.declared.kinds.Kind.TheVariants as kind
use Rattle.reg_registry.specs.declared.kinds.Shape.{Shape}
use Rattle.reg_registry.specs.declared.kinds.Shape.TheVariants as shape
use Rattle.reg_forms.specs.Declarations.{is_enum_kind, is_enum_row}
use Rattle.reg_forms.specs.declared.forms.Declaration.{Declaration}
use Rattle.reg_forms.specs.declared.forms.EnumForm.{EnumForm}
use Rattle.reg_forms.specs.declared.forms.Forms.{Forms}
use Rattle.reg_forms.specs.declared.forms.GroupForm.{GroupForm}
use Rattle.reg_forms.specs.declared.forms.OptionForm.{OptionForm}
use Rattle.reg_forms.specs.declared.forms.Sort.{Sort}
use Rattle.reg_forms.specs.declared.forms.Sort.TheVariants as sort

-- the first of things that has this name
abbrev pub first_named : {A : Type 0} → (A → List ℕ) → List A → List ℕ → Option A
first_named name_of things name = find (λ thing. bytes_eq name (name_of thing)) things

abbrev pub declaration_of : Forms → List ℕ → Option Declaration
declaration_of f name = first_named (λ d. d.name) f.declarations name

abbrev pub enumerant_of : Forms → List ℕ → Option EnumForm
enumerant_of f name = first_named (λ e. e.name) f.enumerants name

abbrev pub group_of : Forms → List ℕ → Option GroupForm
group_of f name = first_named (λ g. g.name) f.groups name

-- what a kind is, as that of something which is mentioned
abbrev pub sort_of : Kind → Sort
sort_of kind.Constant = sort.Constant
sort_of kind.Command = sort.Command
sort_of _ = sort.Type

abbrev pub is_sort : Sort → Sort → Bool
is_sort sort.Type sort.Type = true
is_sort sort.Constant sort.Constant = true
is_sort sort.Command sort.Command = true
is_sort sort.Value sort.Value = true
is_sort _ _ = false

abbrev pub is_constant : Declaration → Bool
is_constant d = is_sort sort.Constant (sort_of d.kind)

-- some declaration of this sort has the name
abbrev pub is_declared : Forms → Sort → List ℕ → Bool
is_declared f sort name = list_any (λ d. is_sort sort (sort_of d.kind) && bytes_eq name d.name) f.declarations

-- something of a sort has the name
abbrev pub is_known : Forms → Sort → List ℕ → Bool
is_known f sort.Value name = is_declared f sort.Constant name || is_some (enumerant_of f name)
is_known f sort name = is_declared f sort name

-- what the values of an enum type of a name are
abbrev pub shape_named : Forms → List ℕ → Shape
shape_named f name = option_map_or (λ g. g.shape) (group_of f name) shape.List

-- what the values of a declared name are: only enum types have such
abbrev pub shape_of : Forms → Declaration → Shape
shape_of f d =
    if is_enum_row d then shape_named f d.name else if is_enum_kind d.kind then shape.List else shape.Plain

abbrev pub is_mask64 : Shape → Bool
is_mask64 shape.Mask64 = true
is_mask64 _ = false

abbrev pub features_in : Forms → List OptionForm
features_in f = filter (λ o. is_some o.version) f.options

abbrev pub extensions_in : Forms → List OptionForm
extensions_in f = filter (λ o. is_none o.version) f.options
