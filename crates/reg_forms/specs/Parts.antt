-- Members, parameters and prototypes: the parts of structs, unions, function pointers and commands (registry manual, the tags `member`,
-- `param` and `proto`).
use Rattle.std.specs.Prelude.{ℕ, Bool, ◌&&◌, List, [], ◌∷◌, ◌++◌, filter, map, Option, None, is_some, is_none, option_map, codes, if◌then◌else◌}
use Rattle.std.specs.List.{flat_map, list_any}
use Rattle.std.specs.Option.{option_map_or, option_to_list}
use Rattle.std.specs.Str.{bytes_eq}
use Rattle.vkb_bytes.specs.Trimming.{collapse}
use Rattle.reg_registry.specs.declared.kinds.Kind.{Kind}
use Rattle.reg_registry.specs.declared.kinds.Kind.TheVariants.{FuncPointer, Struct, Union, Command}
use Rattle.reg_reader.specs.Views.{Element, text_before}
use Rattle.reg_forms.specs.declared.forms.MemberForm.{MemberForm}
use Rattle.reg_forms.specs.declared.forms.Mention.{Mention}
use Rattle.reg_forms.specs.declared.forms.RowCode.TheVariants.{DuplicateName}
use Rattle.reg_forms.specs.declared.forms.Sort.{Sort}
use Rattle.reg_forms.specs.declared.forms.Sort.TheVariants as sort
use Rattle.reg_forms.specs.Attributes.{child, children, count_in, counts, first_part, has_value, name_in, text_of, value_of, value_or_empty, word_if}
use Rattle.reg_forms.specs.Items.{Item, bad_at}

-- the text of the first child `name`, where it is a name
abbrev pub name_inside : Element → Option (List ℕ)
name_inside e = name_in (option_map text_of (child (codes "name") e))

-- what a member, parameter or prototype lacks
abbrev pub part_words : Element → List (List ℕ)
part_words e = word_if (is_none (name_inside e)) (codes "name") ++ word_if (is_none (child (codes "type") e)) (codes "type")

-- what is wrong with each of these by itself
abbrev pub lacks : List Element → List Item
lacks parts = flat_map (λ part. map (bad_at part) (part_words part)) parts

-- it has a name and a type
abbrev pub is_sound : Element → Bool
is_sound e = is_some (name_inside e) && is_some (child (codes "type") e)

-- the text of a child, or nothing
abbrev pub text_inside : List ℕ → Element → List ℕ
text_inside name e = option_map_or text_of (child name e) []

-- what a member or parameter says
abbrev pub member_of : Element → MemberForm
member_of e = record {
  place = e.place;
  name = text_inside (codes "name") e;
  text = collapse (text_of e);
  base = text_inside (codes "type") e;
  stars = count_in 42 (text_of e);
  values = value_or_empty (codes "values") e;
  len = first_part (value_or_empty (codes "len") e);
  optional = bytes_eq (codes "true") (first_part (value_or_empty (codes "optional") e));
  silent = has_value (codes "noautovalidity") (codes "true") e;
}

-- the text of an element, as the name of something of a sort
abbrev pub mention_of : Sort → Element → Mention
mention_of sort e = record { place = e.place; name = text_of e; sort = sort }

-- the name in an attribute, as that of something of a sort
abbrev pub mention_in : List ℕ → Sort → Element → List Mention
mention_in attribute sort e = option_to_list (option_map (λ name. record { place = e.place; name = name; sort = sort }) (value_of attribute e))

-- the type of a part
abbrev pub type_mention : Element → List Mention
type_mention e = option_to_list (option_map (mention_of sort.Type) (child (codes "type") e))

-- what a member or parameter mentions: its type, and then the constants that bound its arrays
abbrev pub member_mentions : Element → List Mention
member_mentions e = type_mention e ++ map (mention_of sort.Constant) (children (codes "enum") e)

-- the elements of the members or parameters of what is no alias
abbrev pub members_in : List ℕ → Kind → Element → List Element
members_in api Struct e = filter (counts api) (children (codes "member") e)
members_in api Union e = filter (counts api) (children (codes "member") e)
members_in api FuncPointer e = if is_some (child (codes "proto") e) then filter (counts api) (children (codes "param") e) else []
members_in api Command e = filter (counts api) (children (codes "param") e)
members_in api _ e = []

-- the prototype of what is no alias
abbrev pub proto_in : Kind → Element → Option Element
proto_in FuncPointer e = child (codes "proto") e
proto_in Command e = child (codes "proto") e
proto_in _ e = None

-- the members that have all that they need
abbrev pub sound_members : List ℕ → Kind → Element → List Element
sound_members api kind e = filter is_sound (members_in api kind e)

-- the name is one of these, byte for byte
abbrev pub is_among : List (List ℕ) → List ℕ → Bool
is_among names name = list_any (bytes_eq name) names

-- of members in order, with the names before them, each whose name stands before it
abbrev pub repeated : List (List ℕ) → List MemberForm → List Item
repeated seen [] = []
repeated seen (member ∷ more) =
    (if is_among seen member.name then Item.wrong (record { code = DuplicateName; at = member.place; word = member.name }) ∷ [] else [])
    ++ repeated (member.name ∷ seen) more

-- what is wrong with the prototype, the members and the parameters of what is no alias
abbrev pub part_faults : List ℕ → Kind → Element → List Item
part_faults api kind e =
    lacks (option_to_list (proto_in kind e))
    ++ lacks (members_in api kind e)
    ++ repeated [] (map member_of (sound_members api kind e))

-- the text before the name in a prototype
abbrev pub result_of : Kind → Element → List ℕ
result_of kind e = option_map_or (λ proto. collapse (text_before (codes "name") proto.content)) (proto_in kind e) []

-- what the parts of an element mention that is no alias
abbrev pub inner_mentions : List ℕ → Kind → Element → List Mention
inner_mentions api kind e =
    flat_map type_mention (filter is_sound (option_to_list (proto_in kind e))) ++ flat_map member_mentions (sound_members api kind e)
