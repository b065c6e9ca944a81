-- Features and extensions, with their blocks (registry manual, the tags `feature`, `extension`, `require` and `remove`).
use Rattle.std.specs.Prelude.{ℕ, Bool, true, false, not, ◌&&◌, ◌||◌, ◌==◌, ◌+◌, List, [], ◌∷◌, ◌++◌, drop, length, Option, Some, None, is_none, option_map, codes, if◌then◌else◌}
use Rattle.std.specs.List.{flat_map, list_any}
use Rattle.std.specs.Option.{option_flatten, option_map_or}
use Rattle.vkb_bytes.specs.Numbers.{short_numeral_of}
use Rattle.reg_reader.specs.Views.{Element, elements_in}
use Rattle.reg_forms.specs.declared.forms.RowCode.TheVariants.{ApiType}
use Rattle.reg_forms.specs.declared.forms.Sort.{Sort}
use Rattle.reg_forms.specs.declared.forms.Sort.TheVariants as sort
use Rattle.reg_forms.specs.Attributes.{before, counts, has, is_bad_number, is_named, lists, name_of, value_of, word_if}
use Rattle.reg_forms.specs.Enums.{enum_items, number_in, own_name, role_in_block}
use Rattle.reg_forms.specs.Items.{Item, bad_at, unless_bad, wrong_at}

-- the element names something of a sort in the block round it
abbrev pub named_entry : List ℕ → Sort → Element → List Item
named_entry api sort e =
    if counts api e then unless_bad e (word_if (is_none (name_of e)) (codes "name")) (Item.lists (record { place = e.place; name = own_name e; sort = sort }) ∷ [])
    else []

-- what an element in a `require` block says
abbrev pub required_items : List ℕ → (List ℕ → Bool) → Option ℕ → Element → List Item
required_items api is_enum number e =
    if is_named (codes "type") e then named_entry api sort.Type e
    else if is_named (codes "command") e then named_entry api sort.Command e
    else if is_named (codes "enum") e then enum_items api is_enum (role_in_block is_enum e) number e
    else []

-- what an element in a `remove` block says
abbrev pub removed_items : List ℕ → Element → List Item
removed_items api e =
    if is_named (codes "type") e then named_entry api sort.Type e
    else if is_named (codes "command") e then named_entry api sort.Command e
    else if is_named (codes "enum") e then named_entry api sort.Value e
    else []

-- what a block of an option says; `number` is that of an extension
abbrev pub block_items : List ℕ → (List ℕ → Bool) → Option ℕ → Element → List Item
block_items api is_enum number e =
    if counts api e then
    (if is_named (codes "require") e then
    Item.opens e.place true (value_of (codes "depends") e) ∷ flat_map (required_items api is_enum number) (elements_in e.content)
    else if is_named (codes "remove") e then
    Item.opens e.place false (value_of (codes "depends") e) ∷ flat_map (removed_items api) (elements_in e.content)
    else [])
    else []

abbrev pub blocks_of : List ℕ → (List ℕ → Bool) → Option ℕ → Element → List Item
blocks_of api is_enum number e = flat_map (block_items api is_enum number) (elements_in e.content)

-- the name of an option has no `:`, which stands in the names of members alone
abbrev pub is_option_name : List ℕ → Bool
is_option_name name = not (list_any (λ byte. byte == 58) name)

abbrev pub is_bad_name : Element → Bool
is_bad_name e = option_map_or (λ name. not (is_option_name name)) (name_of e) true

-- two short numbers, where there are two
abbrev pub pair_of : Option ℕ → Option ℕ → Option (ℕ × ℕ)
pair_of (Some major) (Some minor) = Some (major, minor)
pair_of _ _ = None

-- the text before the first dot, and the text behind it; none where there is no dot
abbrev pub before_dot : List ℕ → List ℕ
before_dot text = before 46 text

abbrev pub behind_dot : List ℕ → List ℕ
behind_dot text = drop (length (before_dot text) + 1) text

-- the number of a version: one to nine digits on each side of a dot
abbrev pub version_in : List ℕ → Option (ℕ × ℕ)
version_in text = pair_of (short_numeral_of (before_dot text)) (short_numeral_of (behind_dot text))

abbrev pub version_of : Element → Option (ℕ × ℕ)
version_of e = option_flatten (option_map version_in (value_of (codes "number") e))

abbrev pub is_same_version : ℕ × ℕ → ℕ × ℕ → Bool
is_same_version version other = version.0 == other.0 && version.1 == other.1

-- the feature is one of the API
abbrev pub is_feature : List ℕ → Element → Bool
is_feature api e = is_named (codes "feature") e && lists (codes "api") api e

-- the numbers of the features before an element have this one, too
abbrev pub is_taken : List (ℕ × ℕ) → Element → Bool
is_taken earlier e = option_map_or (λ version. list_any (is_same_version version) earlier) (version_of e) true

abbrev pub feature_words : List (ℕ × ℕ) → Element → List (List ℕ)
feature_words earlier e = word_if (is_bad_name e) (codes "name") ++ word_if (is_taken earlier e) (codes "number")

-- what a feature of the API says, where those before it have these numbers
abbrev pub feature_items : List ℕ → (List ℕ → Bool) → List (ℕ × ℕ) → Element → List Item
feature_items api is_enum earlier e =
    unless_bad e (feature_words earlier e)
    ((if has (codes "apitype") e then wrong_at ApiType e (own_name e) ∷ [] else [])
    ++ Item.offers e.place (own_name e) (version_of e) None
    ∷ blocks_of api is_enum None e)

abbrev pub extension_words : Element → List (List ℕ)
extension_words e =
    word_if (is_bad_name e) (codes "name") ++ word_if (is_bad_number (codes "number") e || not (has (codes "number") e)) (codes "number")

-- what an extension says that is supported for the API
abbrev pub supported_items : List ℕ → (List ℕ → Bool) → Element → List Item
supported_items api is_enum e =
    unless_bad e (extension_words e)
    (Item.offers e.place (own_name e) None (value_of (codes "depends") e) ∷ blocks_of api is_enum (number_in (codes "number") e) e)

-- what an extension says: what isn't supported for the API isn't looked at
abbrev pub extension_items : List ℕ → (List ℕ → Bool) → Element → List Item
extension_items api is_enum e =
    if not (has (codes "supported") e) then bad_at e (codes "supported") ∷ []
    else if lists (codes "supported") api e then supported_items api is_enum e
    else []
