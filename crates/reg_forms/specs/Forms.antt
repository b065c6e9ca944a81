-- What the elements of a registry come to that count for an API: all that they say, in the order of the text, sorted into lists.
use Rattle.std.specs.Prelude.{ℕ, ◌-◌, Bool, List, [], ◌∷◌, ◌++◌, length, Option, Some, None, is_none, codes, if◌then◌else◌}
use Rattle.std.specs.List.{flat_map}
use Rattle.std.specs.Option.{option_to_list}
use Rattle.reg_reader.specs.Views.{Element, elements_in}
use Rattle.reg_forms.specs.declared.forms.DependsText.{DependsText}
use Rattle.reg_forms.specs.declared.forms.Forms.{Forms}
use Rattle.reg_forms.specs.Attributes.{children, is_named, name_of, word_if}
use Rattle.reg_forms.specs.Declarations.{command_items, is_enum_type, type_items, type_rows}
use Rattle.reg_forms.specs.Enums.{enums_items, own_name}
use Rattle.reg_forms.specs.Items.{Item, bad_at, unless_bad}
use Rattle.reg_forms.specs.Options.{extension_items, feature_items, is_feature, version_of}

abbrev pub tag_items : Element → List Item
tag_items e = unless_bad e (word_if (is_none (name_of e)) (codes "name")) (Item.tags (own_name e) ∷ [])

-- what a child of the root says, where the features before it have these numbers
abbrev pub child_items : List ℕ → (List ℕ → Bool) → List (ℕ × ℕ) → Element → List Item
child_items api is_enum earlier e =
    if is_named (codes "tags") e then flat_map tag_items (children (codes "tag") e)
    else if is_named (codes "types") e then flat_map (type_items api) (children (codes "type") e)
    else if is_named (codes "enums") e then enums_items api is_enum e
    else if is_named (codes "commands") e then flat_map (command_items api) (children (codes "command") e)
    else if is_feature api e then feature_items api is_enum earlier e
    else if is_named (codes "extensions") e then flat_map (extension_items api is_enum) (children (codes "extension") e)
    else []

-- the numbers of the features of the API, with that of an element
abbrev pub with_version : List ℕ → List (ℕ × ℕ) → Element → List (ℕ × ℕ)
with_version api earlier e = if is_feature api e then earlier ++ option_to_list (version_of e) else earlier

-- what the children of the root say, in order
abbrev pub children_items : List ℕ → (List ℕ → Bool) → List (ℕ × ℕ) → List Element → List Item
children_items api is_enum earlier [] = []
children_items api is_enum earlier (e ∷ more) = child_items api is_enum earlier e ++ children_items api is_enum (with_version api earlier e) more

-- all that a registry says for an API
abbrev pub items_of : List ℕ → Element → List Item
items_of api root =
    if is_named (codes "registry") root then children_items api (is_enum_type (type_rows api root)) [] (elements_in root.content)
    else bad_at root (codes "registry") ∷ []

-- the place that a text gets behind these, if there is one
abbrev pub place_behind : List DependsText → Option (List ℕ) → Option ℕ
place_behind texts None = None
place_behind texts (Some text) = Some (length texts)

abbrev pub text_at : ℕ → Option (List ℕ) → List DependsText
text_at place None = []
text_at place (Some text) = record { place = place; text = text } ∷ []

-- the lists with one thing more that is said
abbrev pub with_item : Forms → Item → Forms
with_item f (Item.wrong fault) = record f { faults = f.faults ++ fault ∷ [] }
with_item f (Item.tags tag) = record f { tags = f.tags ++ tag ∷ [] }
with_item f (Item.declares declaration) = record f { declarations = f.declarations ++ declaration ∷ [] }
with_item f (Item.groups group) = record f { groups = f.groups ++ group ∷ [] }
with_item f (Item.numbers enumerant) = record f { enumerants = f.enumerants ++ enumerant ∷ [] }
with_item f (Item.offers place name version depends) = record f {
  options = f.options ++ record { place = place; name = name; version = version; depends = place_behind f.texts depends } ∷ [];
  texts = f.texts ++ text_at place depends;
}
with_item f (Item.opens place adds depends) = record f {
  blocks = f.blocks ++ record { place = place; owner = length f.options - 1; adds = adds; depends = place_behind f.texts depends } ∷ [];
  texts = f.texts ++ text_at place depends;
}
with_item f (Item.lists mention) = record f { entries = f.entries ++ record { block = length f.blocks - 1; mention = mention } ∷ [] }
with_item f (Item.mentions mention) = record f { mentions = f.mentions ++ mention ∷ [] }

abbrev pub with_items : Forms → List Item → Forms
with_items f [] = f
with_items f (item ∷ items) = with_items (with_item f item) items

abbrev pub no_forms : Forms
no_forms = record {
  tags = [];
  declarations = [];
  groups = [];
  enumerants = [];
  options = [];
  blocks = [];
  entries = [];
  texts = [];
  mentions = [];
  faults = [];
}

-- what the registry whose root this is comes to for an API
abbrev pub forms_of : List ℕ → Element → Forms
forms_of api root = with_items no_forms (items_of api root)
