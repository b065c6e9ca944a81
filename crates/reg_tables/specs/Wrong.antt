-- What is wrong with the texts, the values and the number of the names of a registry. Each rule gives its faults as a list.
use Rattle.std.specs.Prelude.{ℕ, Bool, true, false, not, ◌&&◌, ℤ, List, [], ◌∷◌, ◌++◌, map, Option, Some, None, is_none, option_map, slice_get, if◌then◌else◌}
use Rattle.std.specs.List.{flat_map}
use Rattle.std.specs.Option.{option_map_or, option_to_list}
use Rattle.std.specs.Str.{bytes_eq}
use Rattle.std.specs.Ordering.{int_eq}
use Rattle.vkb_formula.specs.Expressions.{Expression}
use Rattle.vkb_formula.specs.Names.{most_names}
use Rattle.reg_forms.specs.declared.forms.Declaration.{Declaration}
use Rattle.reg_forms.specs.declared.forms.DependsText.{DependsText}
use Rattle.reg_forms.specs.declared.forms.EnumForm.{EnumForm}
use Rattle.reg_forms.specs.declared.forms.Fault.{Fault}
use Rattle.reg_forms.specs.declared.forms.Forms.{Forms}
use Rattle.reg_forms.specs.declared.forms.RowCode.{RowCode}
use Rattle.reg_forms.specs.declared.forms.RowCode.TheVariants.{BadExpression, ValueRange, ValueClash, AliasCircle, NameLimit}
use Rattle.reg_tables.specs.Bits.{Atom, Readings, options_of}
use Rattle.reg_tables.specs.Lists.{firsts}
use Rattle.reg_tables.specs.Tables.{declaration_of, enumerant_of, is_constant}
use Rattle.reg_tables.specs.Values.{alias_of, last_of, number_of, value_of}

-- a fault where something is so
abbrev pub fault_if : Bool → RowCode → ℕ → List ℕ → List Fault
fault_if test code place word = if test then record { code = code; at = place; word = word } ∷ [] else []

-- BadExpression: the text of a `depends` is no expression
abbrev pub bad_text : DependsText × Option Expression → List Fault
bad_text reading = fault_if (is_none reading.1) BadExpression reading.0.place reading.0.text

-- ValueRange: what the row gives is no value of the type
abbrev pub out_of_range : Forms → EnumForm → List Fault
out_of_range f e = fault_if (is_none (alias_of e) && is_none (number_of f e)) ValueRange e.place e.name

-- two values, where there are two
abbrev pub are_different : Option ℤ → Option ℤ → Bool
are_different (Some value) (Some other) = not (int_eq value other)
are_different _ _ = false

-- ValueClash: the first row of the enumerant has another value
abbrev pub clash : Forms → EnumForm → List Fault
clash f e =
    option_map_or (λ first. fault_if (bytes_eq first.of e.of && are_different (value_of f first) (value_of f e)) ValueClash e.place e.name)
    (enumerant_of f e.name) []

abbrev pub is_same_alias : Option (List ℕ) → Option (List ℕ) → Bool
is_same_alias None None = true
is_same_alias (Some name) (Some other) = bytes_eq name other
is_same_alias _ _ = false

-- ValueClash: the first constant of the name has another value text or alias
abbrev pub constant_clash : Forms → Declaration → List Fault
constant_clash f d =
    option_map_or (λ first. fault_if (is_constant first && is_constant d && not (bytes_eq first.text d.text && is_same_alias first.alias d.alias)) ValueClash d.place d.name)
    (declaration_of f d.name) []

-- AliasCircle: following aliases from the row never ends
abbrev pub endless : Forms → EnumForm → List Fault
endless f e = fault_if (is_none (last_of f e)) AliasCircle e.place e.name

-- AliasCircle: it is an alias of itself
abbrev pub alias_of_itself : Declaration → List Fault
alias_of_itself d = fault_if (option_map_or (bytes_eq d.name) d.alias false) AliasCircle d.place d.name

-- NameLimit: with this name there are more than a table holds
abbrev pub past_limit : List Atom → List Fault
past_limit named = option_to_list (option_map (λ one. record { code = NameLimit; at = one.0; word = one.1 }) (slice_get (firsts (λ one. one.1) named) most_names))

-- values that are none, or clash, or lead nowhere
abbrev pub wrong_values_in : Forms → List Fault
wrong_values_in f =
    flat_map (out_of_range f) f.enumerants ++ flat_map (clash f) f.enumerants ++ flat_map (endless f) f.enumerants
    ++ flat_map (constant_clash f) f.declarations ++ flat_map alias_of_itself f.declarations

-- names past what a table holds
abbrev pub limits_in : Forms → Readings → List Fault
limits_in f readings =
    past_limit (map (λ d. (d.place, d.name)) f.declarations) ++ past_limit (options_of f readings)
    ++ past_limit (map (λ e. (e.place, e.name)) f.enumerants)
