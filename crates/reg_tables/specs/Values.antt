-- The values of enumerants.
use Rattle.std.specs.Prelude.{◌≡◌, ◌<◌, ℕ, ◌+◌, ◌^◌, ◌-◌, ℤ, pos, neg_ℤ, int_lt, zero, suc, List, map, All, IfSome, slice_get, length, Option, Some, None, Result, Ok, Err, option_map, if◌then◌else◌}
use Rattle.std.specs.Option.{option_and_then, option_flatten, option_map_or}
use Rattle.std.specs.Str.{bytes_eq}
use Rattle.reg_registry.specs.declared.kinds.Shape.{Shape}
use Rattle.reg_registry.specs.declared.kinds.Shape.TheVariants as shape
use Rattle.reg_values.specs.Literal.{literal_value}
use Rattle.reg_values.specs.Values.{bit_value, offset_value}
use Rattle.reg_values.specs.declared.ValueFault.{ValueFault}
use Rattle.reg_forms.specs.declared.forms.EnumForm.{EnumForm}
use Rattle.reg_forms.specs.declared.forms.Forms.{Forms}
use Rattle.reg_forms.specs.declared.forms.Given.{Given}
use Rattle.reg_forms.specs.declared.forms.Given.TheVariants as given
use Rattle.reg_tables.specs.Tables.{enumerant_of, shape_named}

-- how many bits a value has that is given by one
abbrev pub width_of : Shape → ℕ
width_of shape.Mask64 = 64
width_of _ = 32

abbrev pub least_of : Shape → ℤ
least_of shape.List = neg_ℤ (pos 2147483648)
least_of _ = pos 0

abbrev pub greatest_of : Shape → ℤ
greatest_of shape.Mask32 = pos 4294967295
greatest_of shape.Mask64 = pos (2 ^ 64 - 1)
greatest_of _ = pos 2147483647

-- the value, where it is one of the shape
abbrev pub in_shape : Shape → ℤ → Option ℤ
in_shape shape value = if int_lt value (least_of shape) then None else if int_lt (greatest_of shape) value then None else Some value

abbrev pub where_ok : {A : Type 0} → Result A ValueFault → Option A
where_ok (Ok value) = Some value
where_ok (Err fault) = None

-- the number that is given, where it is in its range; an alias gives none
abbrev pub number_given : Shape → Given → Option ℤ
number_given shape (given.Literal text) = where_ok (literal_value text)
number_given shape (given.Bit position) = option_map pos (where_ok (bit_value position (width_of shape)))
number_given shape (given.Offset extension offset negative) = where_ok (offset_value extension offset negative)
number_given shape (given.Alias name) = None

-- the value that a row gives itself, where it is one of its type's shape
abbrev pub number_of : Forms → EnumForm → Option ℤ
number_of f e = option_and_then (in_shape (shape_named f e.of)) (number_given (shape_named f e.of) e.given)

-- the name that a row is an alias of
abbrev pub alias_in : Given → Option (List ℕ)
alias_in (given.Alias name) = Some name
alias_in _ = None

abbrev pub alias_of : EnumForm → Option (List ℕ)
alias_of e = alias_in e.given

-- the row, where it is one of this type
abbrev pub within : List ℕ → EnumForm → Option EnumForm
within of e = if bytes_eq of e.of then Some e else None

-- what an alias stands for: the first row of the name, where that is an enumerant of the same type
abbrev pub next_of : Forms → EnumForm → Option EnumForm
next_of f e = option_and_then (within e.of) (option_and_then (enumerant_of f) (alias_of e))

-- The last row of the chain of aliases that begins with a row, where the chain ends, in a row that is no alias or one of what isn't
-- there. So many steps are enough, as none comes twice in a chain that ends.
abbrev pub last_in : ℕ → Forms → EnumForm → Option EnumForm
last_in zero f e = None
last_in (suc n) f e = option_map_or (last_in n f) (next_of f e) (Some e)

abbrev pub last_of : Forms → EnumForm → Option EnumForm
last_of f e = last_in (length f.enumerants + 1) f e

-- the value of a row, given by itself or at the end of its aliases, where nothing is wrong on the way
abbrev pub value_of : Forms → EnumForm → Option ℤ
value_of f e = option_and_then (number_of f) (last_of f e)

-- the number that each row gives itself, and the place of the last row of its chain of aliases
pub record AreValues (f : Forms) (numbers : List (Option ℤ)) (lasts : List (Option ℕ)) : Type 0 where
  pub numbers_are : numbers ≡ map (number_of f) f.enumerants
  pub lasts_count : length lasts ≡ length f.enumerants
  pub lasts_are : (place : ℕ) (e : EnumForm) → slice_get f.enumerants place ≡ Some e
      → option_and_then (slice_get f.enumerants) (option_flatten (slice_get lasts place)) ≡ last_of f e
  pub within : All (λ last. IfSome last (λ place. place < length f.enumerants)) lasts
