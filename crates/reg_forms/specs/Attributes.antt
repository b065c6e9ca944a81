-- What the attributes and children of an element say, in the forms of the registry manual (`registry.html`). Which bytes a name has,
-- and how many digits a number, is this tool's own.
use Rattle.std.specs.Prelude.{ℕ, Bool, true, false, ◌==◌, List, [], ◌∷◌, length, filter, Option, Some, None, is_some, is_none, codes, if◌then◌else◌}
use Rattle.std.specs.List.{list_any, find}
use Rattle.std.specs.Option.{option_map_or}
use Rattle.std.specs.Str.{bytes_eq}
use Rattle.vkb_bytes.specs.Numbers.{short_numeral_of}
use Rattle.reg_registry.specs.Words.{is_name}
use Rattle.reg_reader.specs.Views.{Element, elements_in, text_in, value_in}

-- the value of an attribute, with references undone
abbrev pub value_of : List ℕ → Element → Option (List ℕ)
value_of attribute e = value_in e.attributes attribute

abbrev pub has : List ℕ → Element → Bool
has attribute e = is_some (value_of attribute e)

-- the attribute is there, and has this value
abbrev pub has_value : List ℕ → List ℕ → Element → Bool
has_value attribute value e = option_map_or (bytes_eq value) (value_of attribute e) false

-- the value, or nothing where the attribute isn't there
abbrev pub value_or_empty : List ℕ → Element → List ℕ
value_or_empty attribute e = option_map_or (λ value. value) (value_of attribute e) []

abbrev pub text_of : Element → List ℕ
text_of e = text_in e.content

abbrev pub is_named : List ℕ → Element → Bool
is_named name e = bytes_eq name e.name

-- the direct children of a name, in order
abbrev pub children : List ℕ → Element → List Element
children name e = filter (is_named name) (elements_in e.content)

-- the first direct child of a name
abbrev pub child : List ℕ → Element → Option Element
child name e = find (is_named name) (elements_in e.content)

-- one byte more in front of the first part
abbrev pub with_byte : ℕ → List (List ℕ) → List (List ℕ)
with_byte byte [] = (byte ∷ []) ∷ []
with_byte byte (part ∷ parts) = (byte ∷ part) ∷ parts

-- the parts between the commas of a text
abbrev pub parts_of : List ℕ → List (List ℕ)
parts_of [] = [] ∷ []
parts_of (byte ∷ rest) = if byte == 44 then [] ∷ parts_of rest else with_byte byte (parts_of rest)

-- the part of a text before the first byte that is this one
abbrev pub before : ℕ → List ℕ → List ℕ
before stop [] = []
before stop (byte ∷ rest) = if byte == stop then [] else byte ∷ before stop rest

-- the part before the first comma of a text
abbrev pub first_part : List ℕ → List ℕ
first_part text = before 44 text

-- the list of names in an attribute has this one
abbrev pub lists : List ℕ → List ℕ → Element → Bool
lists attribute name e = option_map_or (λ value. list_any (bytes_eq name) (parts_of value)) (value_of attribute e) false

-- the element is one of this API: its list of them names it, or it has none
abbrev pub counts : List ℕ → Element → Bool
counts api e = if has (codes "api") e then lists (codes "api") api e else true

-- the value of an attribute, where it is a name
abbrev pub name_in : Option (List ℕ) → Option (List ℕ)
name_in None = None
name_in (Some text) = if is_name text then Some text else None

-- the attribute `name`, where it is there and is a name
abbrev pub name_of : Element → Option (List ℕ)
name_of e = name_in (value_of (codes "name") e)

-- the attribute is there, and isn't one to nine digits
abbrev pub is_bad_number : List ℕ → Element → Bool
is_bad_number attribute e = option_map_or (λ value. is_none (short_numeral_of value)) (value_of attribute e) false

-- a word where something is so
abbrev pub word_if : Bool → List ℕ → List (List ℕ)
word_if test word = if test then word ∷ [] else []

-- how many bytes of a text are this one
abbrev pub count_in : ℕ → List ℕ → ℕ
count_in byte text = length (filter (λ other. byte == other) text)
