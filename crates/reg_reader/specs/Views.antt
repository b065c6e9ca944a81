-- An element of the registry as plain data: what is said above this crate is said of it, and not of the places of parts.
use Rattle.std.specs.Prelude.{ℕ, ◌+◌, Option, Some, None, List, [], ◌∷◌, ◌++◌, length, sum_by, codes, if◌then◌else◌}
use Rattle.std.specs.Str.{bytes_eq}

-- What stands between two tags, in order: characters, with references undone, and elements. An element has the place of
-- its `<`, its name, the name and value of each attribute, and what stands between its own tags.
pub data Content : Type 0 where
  none : Content
  chars : (text : List ℕ) (after : Content) → Content
  child : (place : ℕ) (name : List ℕ) (attributes : List (List ℕ × List ℕ)) (inner : Content) (after : Content) → Content

pub record Element : Type 0 where
  pub place : ℕ
  pub name : List ℕ
  pub attributes : List (List ℕ × List ℕ)
  pub content : Content

-- the elements that stand right between two tags
abbrev pub elements_in : Content → List Element
elements_in Content.none = []
elements_in (Content.chars text after) = elements_in after
elements_in (Content.child place name attributes inner after) =
    record { place = place; name = name; attributes = attributes; content = inner } ∷ elements_in after

-- all characters between two tags, at any depth, but for those of elements `comment`
abbrev pub text_in : Content → List ℕ
text_in Content.none = []
text_in (Content.chars text after) = text ++ text_in after
text_in (Content.child place name attributes inner after) = (if bytes_eq name (codes "comment") then [] else text_in inner) ++ text_in after

-- all characters before the first element of a name that stands right between two tags, but for those of elements `comment`
abbrev pub text_before : List ℕ → Content → List ℕ
text_before name Content.none = []
text_before name (Content.chars text after) = text ++ text_before name after
text_before name (Content.child place own attributes inner after) =
    if bytes_eq own name then [] else (if bytes_eq own (codes "comment") then [] else text_in inner) ++ text_before name after

-- the value of the attribute of a name, if there is one
abbrev pub value_in : List (List ℕ × List ℕ) → List ℕ → Option (List ℕ)
value_in [] name = None
value_in (attribute ∷ more) name = if bytes_eq attribute.0 name then Some attribute.1 else value_in more name

-- how many bytes the names, the values and the characters of an element have, with one for each element
abbrev pub attribute_size : List ℕ × List ℕ → ℕ
attribute_size attribute = length attribute.0 + length attribute.1

abbrev pub content_size : Content → ℕ
content_size Content.none = 0
content_size (Content.chars text after) = length text + content_size after
content_size (Content.child place name attributes inner after) =
    1 + length name + sum_by attribute_size attributes + content_size inner + content_size after

abbrev pub element_size : Element → ℕ
element_size e = 1 + length e.name + sum_by attribute_size e.attributes + content_size e.content
