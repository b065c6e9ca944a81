-- Enumerants and constants: what an element `enum` says, by where it stands (registry manual, the tags `enums` and `enum`).
use Rattle.std.specs.Prelude.{ℕ, Bool, true, false, not, ◌&&◌, ◌||◌, nat_lt, List, [], ◌∷◌, ◌++◌, length, filter, Option, None, is_some, is_none, option_map, codes, if◌then◌else◌}
use Rattle.std.specs.List.{flat_map}
use Rattle.std.specs.Option.{option_flatten, option_map_or, option_or}
use Rattle.std.specs.Str.{bytes_eq}
use Rattle.vkb_bytes.specs.Numbers.{short_numeral_of}
use Rattle.vkb_formula.specs.Names.{place_of}
use Rattle.reg_registry.specs.declared.kinds.Kind.TheVariants as kind
use Rattle.reg_registry.specs.declared.kinds.Shape.{Shape}
use Rattle.reg_registry.specs.declared.kinds.Shape.TheVariants as shape
use Rattle.reg_registry.specs.Words.{is_name}
use Rattle.reg_values.specs.Literal.{literal_of}
use Rattle.reg_reader.specs.Views.{Element}
use Rattle.reg_forms.specs.declared.enum_attributes.Role.{Role}
use Rattle.reg_forms.specs.declared.enum_attributes.Role.TheVariants as standing
use Rattle.reg_forms.specs.declared.forms.Declaration.{Declaration}
use Rattle.reg_forms.specs.declared.forms.EnumForm.{EnumForm}
use Rattle.reg_forms.specs.declared.forms.Given.{Given}
use Rattle.reg_forms.specs.declared.forms.Given.TheVariants as given
use Rattle.reg_forms.specs.declared.forms.RowCode.TheVariants.{UnknownName}
use Rattle.reg_forms.specs.declared.forms.Sort.TheVariants as sort
use Rattle.reg_forms.specs.Attributes.{children, counts, has, has_value, is_bad_number, name_of, value_of, value_or_empty, word_if}
use Rattle.reg_forms.specs.Items.{Item, bad_at, unless_bad, wrong_at}
use Rattle.reg_forms.specs.Parts.{is_among, mention_in}

-- a table of names has this one
abbrev pub is_held : List (List ℕ) → List ℕ → Bool
is_held names name = is_some (place_of name names)

-- an enumerant of some enum type stands there
abbrev pub is_enumerant : Role → Bool
is_enumerant (standing.Base of) = true
is_enumerant (standing.Extending of) = true
is_enumerant _ = false

-- it has to have a value
abbrev pub wants_value : Role → Bool
wants_value (standing.Base of) = true
wants_value standing.Constant = true
wants_value standing.Lost = true
wants_value _ = false

-- a value may be given by a bit there
abbrev pub takes_bits : Role → Bool
takes_bits standing.Constant = false
takes_bits standing.Plain = false
takes_bits _ = true

-- a value may be given by an offset there
abbrev pub takes_offsets : Role → Bool
takes_offsets (standing.Extending of) = true
takes_offsets standing.Astray = true
takes_offsets _ = false

-- how many of the four ways to give a value an element has
abbrev pub ways_of : Element → ℕ
ways_of e = length (filter (λ attribute. has attribute e) (codes "value" ∷ codes "bitpos" ∷ codes "offset" ∷ codes "alias" ∷ []))

abbrev pub is_bad_value : Role → Element → Bool
is_bad_value role e =
    nat_lt 1 (ways_of e)
    || (wants_value role && nat_lt (ways_of e) 1)
    || (is_enumerant role && option_map_or (λ text. is_none (literal_of text)) (value_of (codes "value") e) false)

-- an offset counts from the number of an extension: its own, or that of the extension round it, if there is one
abbrev pub is_bad_offset : Role → Option ℕ → Element → Bool
is_bad_offset role number e =
    is_bad_number (codes "offset") e
    || (has (codes "offset") e && not (takes_offsets role && (has (codes "extnumber") e || is_some number)))

abbrev pub enum_words : Role → Option ℕ → Element → List (List ℕ)
enum_words role number e =
    word_if (is_bad_number (codes "bitpos") e || (has (codes "bitpos") e && not (takes_bits role))) (codes "bitpos")
    ++ word_if (has (codes "dir") e && not (has_value (codes "dir") (codes "-") e)) (codes "dir")
    ++ word_if (is_bad_number (codes "extnumber") e) (codes "extnumber")
    ++ word_if (is_none (name_of e)) (codes "name")
    ++ word_if (is_bad_offset role number e) (codes "offset")
    ++ word_if (is_bad_value role e) (codes "value")

-- the number in an attribute
abbrev pub number_in : List ℕ → Element → Option ℕ
number_in attribute e = option_flatten (option_map short_numeral_of (value_of attribute e))

-- the offset of an element whose value is given by one
abbrev pub offset_of : Option ℕ → Element → ℕ → Given
offset_of number e offset = given.Offset (option_map_or (λ n. n) (option_or (number_in (codes "extnumber") e) number) 0) offset (has (codes "dir") e)

-- how the value is given, if it is
abbrev pub given_of : Option ℕ → Element → Option Given
given_of number e =
    option_or (option_map given.Literal (value_of (codes "value") e))
    (option_or (option_map given.Bit (number_in (codes "bitpos") e))
    (option_or (option_map (offset_of number e) (number_in (codes "offset") e))
    (option_map given.Alias (value_of (codes "alias") e))))

-- the name of an element that has one
abbrev pub own_name : Element → List ℕ
own_name e = value_or_empty (codes "name") e

abbrev pub constant_row : Element → Declaration
constant_row e = record {
  place = e.place;
  name = own_name e;
  kind = kind.Constant;
  alias = value_of (codes "alias") e;
  text = value_or_empty (codes "value") e;
  result = [];
  prototyped = false;
  returned = false;
  bits = None;
  extends = [];
  members = [];
  mentions = mention_in (codes "alias") sort.Constant e;
}

-- an enumerant of a type, whose value is given so
abbrev pub enum_row : List ℕ → Bool → Element → Given → EnumForm
enum_row of is_base e given = record { place = e.place; of = of; name = own_name e; given = given; base = is_base }

-- the element names this in the block round it
abbrev pub entry_of : Element → Item
entry_of e = Item.lists (record { place = e.place; name = own_name e; sort = sort.Value })

-- what it extends is no enum type
abbrev pub strays : (List ℕ → Bool) → Element → List Item
strays is_enum e = option_map_or (λ of. if is_enum of then [] else wrong_at UnknownName e of ∷ []) (value_of (codes "extends") e) []

-- what an element says that has nothing bad in it, by where it stands
abbrev pub role_items : Role → Option ℕ → Element → List Item
role_items (standing.Base of) number e = option_map_or (λ given. Item.numbers (enum_row of true e given) ∷ []) (given_of number e) []
role_items standing.Constant number e = Item.declares (constant_row e) ∷ []
role_items standing.Lost number e = []
role_items (standing.Extending of) number e =
    option_map_or (λ given. Item.numbers (enum_row of false e given) ∷ []) (given_of number e) [] ++ entry_of e ∷ []
role_items standing.Astray number e = if is_some (given_of number e) then [] else entry_of e ∷ []
role_items standing.Plain number e = (if is_some (given_of number e) then Item.declares (constant_row e) ∷ [] else []) ++ entry_of e ∷ []

-- what an `enum` says where it stands; `number` is that of the extension round it
abbrev pub enum_items : List ℕ → (List ℕ → Bool) → Role → Option ℕ → Element → List Item
enum_items api is_enum role number e =
    if counts api e then unless_bad e (enum_words role number e) (strays is_enum e ++ role_items role number e) else []

-- where an `enum` of a `require` block stands
abbrev pub role_in_block : (List ℕ → Bool) → Element → Role
role_in_block is_enum e = option_map_or (λ of. if is_enum of then standing.Extending of else standing.Astray) (value_of (codes "extends") e) standing.Plain

-- it stands in the block of an enum type, and extends what is no enum type: so it is no enumerant
abbrev pub is_lost : (List ℕ → Bool) → Role → Element → Bool
is_lost is_enum (standing.Base of) e = option_map_or (λ other. not (is_enum other)) (value_of (codes "extends") e) false
is_lost is_enum _ e = false

-- where an `enum` of an `enums` block stands
abbrev pub role_in_group : (List ℕ → Bool) → Role → Element → Role
role_in_group is_enum role e = if is_lost is_enum role e then standing.Lost else role

-- what an `enum` of an `enums` block says
abbrev pub grouped_items : List ℕ → (List ℕ → Bool) → Role → Element → List Item
grouped_items api is_enum role e = enum_items api is_enum (role_in_group is_enum role e) None e

-- the attribute is one of these words, where it is there
abbrev pub is_one_of : List ℕ → List (List ℕ) → Element → Bool
is_one_of attribute words e = option_map_or (is_among words) (value_of attribute e) true

abbrev pub group_words : Element → List (List ℕ)
group_words e =
    word_if (not (is_one_of (codes "bitwidth") (codes "32" ∷ codes "64" ∷ []) e)) (codes "bitwidth")
    ++ word_if (not (is_one_of (codes "type") (codes "enum" ∷ codes "bitmask" ∷ codes "constants" ∷ []) e)) (codes "type")

-- what the values of a block are
abbrev pub shape_of : Element → Shape
shape_of e =
    if has_value (codes "type") (codes "bitmask") e then (if has_value (codes "bitwidth") (codes "64") e then shape.Mask64 else shape.Mask32)
    else shape.List

-- a block of a name, in which each `enum` stands so, but for those that are lost
abbrev pub group_items : List ℕ → (List ℕ → Bool) → List ℕ → Role → Element → List Item
group_items api is_enum name role e =
    unless_bad e (group_words e)
    (Item.groups (record { place = e.place; name = name; shape = shape_of e })
    ∷ flat_map (grouped_items api is_enum role) (children (codes "enum") e))

-- a block of a name: of the constants, of an enum type, or of nothing that is declared
abbrev pub named_group : List ℕ → (List ℕ → Bool) → Element → List ℕ → List Item
named_group api is_enum e name =
    if bytes_eq name (codes "API Constants") then group_items api is_enum name standing.Constant e
    else if not (is_name name) then bad_at e (codes "name") ∷ []
    else if is_enum name then group_items api is_enum name (standing.Base name) e
    else []

abbrev pub enums_items : List ℕ → (List ℕ → Bool) → Element → List Item
enums_items api is_enum e = option_map_or (named_group api is_enum e) (value_of (codes "name") e) (bad_at e (codes "name") ∷ [])
