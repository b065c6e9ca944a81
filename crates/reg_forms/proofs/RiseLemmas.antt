-- What elements declare stands in the order of the elements, each at one element's place, and only commands mention commands.
use Rattle.std.proofs.Common.{◌≡◌, ◌≤◌, ◌+◌, inl, ℕ, Bool, true, false, not, List, [], ◌∷◌, ◌++◌, filter, map, Option, Some, None, cond, refl, sym, subst, arith}
use Rattle.std.specs.Prelude.{All, codes, is_none, is_some}
use Rattle.std.specs.List.{flat_map}
use Rattle.std.specs.Option.{option_map_or, option_to_list}
use Rattle.std.specs.Str.{bytes_eq}
use Rattle.std.proofs.lemmas.Bool.{cond_both}
use Rattle.std.proofs.lemmas.Grind.{flat_map-append}
use Rattle.std.proofs.lemmas.List.Elements.{All-append, All-cons, All-nil}
use Rattle.reg_registry.specs.Words.{is_name}
use Rattle.reg_registry.specs.declared.kinds.Kind.{Kind}
use Rattle.reg_registry.specs.declared.kinds.Kind.TheVariants as kind
use Rattle.reg_reader.specs.Laws.{RiseFrom, places_in}
use Rattle.reg_reader.specs.Views.{Content, Element, elements_in}
use Rattle.reg_forms.specs.declared.enum_attributes.Role.{Role}
use Rattle.reg_forms.specs.declared.enum_attributes.Role.TheVariants as standing
use Rattle.reg_forms.specs.declared.forms.Declaration.{Declaration}
use Rattle.reg_forms.specs.declared.forms.MemberForm.{MemberForm}
use Rattle.reg_forms.specs.declared.forms.Mention.{Mention}
use Rattle.reg_forms.specs.declared.forms.RowCode.TheVariants.{ApiType, DuplicateName, UnknownName}
use Rattle.reg_forms.specs.declared.forms.Sort.{Sort}
use Rattle.reg_forms.specs.declared.forms.Sort.TheVariants as sort
use Rattle.reg_forms.specs.Attributes.{children, counts, has, is_named, lists, name_of, value_of, word_if}
use Rattle.reg_forms.specs.Declarations.{command_items, command_mentions, command_name, command_row, command_words, declared, is_enum_type, kind_items, kind_of, type_items, type_mentions, type_name, type_row, type_rows, type_words}
use Rattle.reg_forms.specs.Enums.{constant_row, entry_of, enum_items, enum_row, enum_words, enums_items, given_of, group_items, group_words, grouped_items, named_group, number_in, own_name, role_in_block, role_in_group, role_items, shape_of, strays}
use Rattle.reg_forms.specs.Forms.{child_items, children_items, items_of, tag_items, with_version}
use Rattle.reg_forms.specs.Items.{Item, bad_at, unless_bad, wrong_at}
use Rattle.reg_forms.specs.Laws.{IsCommandOrMentionsNone}
use Rattle.reg_forms.specs.Options.{block_items, blocks_of, extension_items, extension_words, feature_items, feature_words, is_feature, named_entry, removed_items, required_items, supported_items, version_of}
use Rattle.reg_forms.specs.Parts.{is_among, lacks, member_of, members_in, part_faults, part_words, proto_in, repeated, sound_members}
use Rattle.reg_forms.proofs.MentionSortLemmas.{constant-mentions_none, type-mentions_none}

-- some of these numbers, in their order
pub data IsPart : List ℕ → List ℕ → Type 0 where
  nothing : IsPart [] []
  left : {n : ℕ} {xs ys : List ℕ} → IsPart xs ys → IsPart xs (n ∷ ys)
  taken : {n : ℕ} {xs ys : List ℕ} → IsPart xs ys → IsPart (n ∷ xs) (n ∷ ys)

part-none : (ys : List ℕ) → IsPart [] ys
part-none [] = IsPart.nothing
part-none (y ∷ ys) = IsPart.left (part-none ys)

part-append : {xs ys us vs : List ℕ} → IsPart xs ys → IsPart us vs → IsPart (xs ++ us) (ys ++ vs)
part-append IsPart.nothing second = second
part-append (IsPart.left first) second = IsPart.left (part-append first second)
part-append (IsPart.taken first) second = IsPart.taken (part-append first second)

-- what rises rises from a lower number, too
rise-lower : (low from : ℕ) (xs : List ℕ) → low ≤ from → RiseFrom from xs → RiseFrom low xs
rise-lower low from [] le rise = tt
rise-lower low from (x ∷ xs) le rise = (omega (arith, le, rise.0), rise.1)

pub part-rises : {xs ys : List ℕ} → IsPart xs ys → (low : ℕ) → RiseFrom low ys → RiseFrom low xs
part-rises IsPart.nothing low rise = tt
part-rises (IsPart.left {n = n} {xs = xs} part) low rise = rise-lower low (n + 1) xs (omega (arith, rise.0)) (part-rises part (n + 1) rise.1)
part-rises (IsPart.taken {n = n} part) low rise = (rise.0, part-rises part (n + 1) rise.1)

-- the place of what is declared
abbrev pub place_said : Item → List ℕ
place_said (Item.declares d) = d.place ∷ []
place_said _ = []

abbrev pub places_said : List Item → List ℕ
places_said items = flat_map place_said items

-- what is declared is a command, or mentions none
abbrev pub IsSorted : Item → Type 0
IsSorted (Item.declares d) = IsCommandOrMentionsNone d
IsSorted _ = Unit {0}

-- What is declared stands at some of these places, in their order.
pub record StandAt (places : List ℕ) (items : List Item) : Type 0 where
  pub part : IsPart (places_said items) places
  pub sorted : All IsSorted items

abbrev own_places : Element → List ℕ
own_places e = e.place ∷ places_in e.content

stand-none : (places : List ℕ) → StandAt places []
stand-none places = record { part = part-none places; sorted = All-nil IsSorted }

stand-append : (places others : List ℕ) (xs ys : List Item) → StandAt places xs → StandAt others ys → StandAt (places ++ others) (xs ++ ys)
stand-append places others xs ys first second = record {
  part = subst (λ said. IsPart said (places ++ others)) (sym (flat_map-append place_said xs ys)) (part-append first.part second.part);
  sorted = All-append IsSorted xs ys first.sorted second.sorted;
}

-- with more places before them
stand-behind : (more places : List ℕ) (items : List Item) → StandAt places items → StandAt (more ++ places) items
stand-behind more places items stand = stand-append more places [] items (stand-none more) stand

-- what is no declaration, before others
stand-besides : (places : List ℕ) (item : Item) (items : List Item) → place_said item ≡ [] → IsSorted item → StandAt places items → StandAt places (item ∷ items)
stand-besides places item items none sorted stand = record {
  part = subst (λ said. IsPart (said ++ places_said items) places) (sym none) stand.part;
  sorted = All-cons IsSorted item items sorted stand.sorted;
}

stand-declared : (d : Declaration) (more : List ℕ) → IsCommandOrMentionsNone d → StandAt (d.place ∷ more) (Item.declares d ∷ [])
stand-declared d more sorted = record {
  part = IsPart.taken (part-none more);
  sorted = All-cons IsSorted (Item.declares d) [] sorted (All-nil IsSorted);
}

module _ (places : List ℕ) where
  stand-if : (test : Bool) (items : List Item) → StandAt places items → StandAt places (cond test items [])
  stand-if true items stand = stand
  stand-if false items stand = stand-none places

  stand-unless_alias : (alias : Bool) (items : List Item) → StandAt places items → StandAt places (cond alias [] items)
  stand-unless_alias true items stand = stand-none places
  stand-unless_alias false items stand = stand

  stand-bad : (e : Element) (words : List (List ℕ)) → StandAt places (map (bad_at e) words)
  stand-bad e [] = stand-none places
  stand-bad e (word ∷ words) = stand-besides places (bad_at e word) (map (bad_at e) words) refl tt (stand-bad e words)

  stand-unless : (e : Element) (words : List (List ℕ)) (items : List Item) → StandAt places items → StandAt places (unless_bad e words items)
  stand-unless e [] items stand = stand
  stand-unless e (word ∷ words) items stand = stand-bad e (word ∷ words)

  -- one thing that is no declaration
  stand-one : (item : Item) → place_said item ≡ [] → IsSorted item → StandAt places (item ∷ [])
  stand-one item none sorted = stand-besides places item [] none sorted (stand-none places)

  stand-mentions : (mentions : List Mention) → StandAt places (map Item.mentions mentions)
  stand-mentions [] = stand-none places
  stand-mentions (mention ∷ mentions) = stand-besides places (Item.mentions mention) (map Item.mentions mentions) refl tt (stand-mentions mentions)

  stand-some : {A : Type 0} (say : A → Item) → ((x : A) → StandAt places (say x ∷ [])) → (o : Option A) → StandAt places (option_map_or (λ x. say x ∷ []) o [])
  stand-some say each None = stand-none places
  stand-some say each (Some x) = each x

  -- things that declare nothing, before others
  stand-faults : (faults items : List Item) → StandAt [] faults → StandAt places items → StandAt places (faults ++ items)
  stand-faults faults items none stand = stand-append [] places faults items none stand

module _ (say : Element → List Item) (each : (e : Element) → StandAt (own_places e) (say e)) where
  -- what the elements between two tags say
  stand-each : (c : Content) → StandAt (places_in c) (flat_map say (elements_in c))
  stand-each Content.none = stand-none []
  stand-each (Content.chars text after) = stand-each after
  stand-each (Content.child place name attributes inner after) =
      let e : Element = record { place = place; name = name; attributes = attributes; content = inner } in
      stand-append (own_places e) (places_in after) (say e) (flat_map say (elements_in after)) (each e) (stand-each after)

  -- what those of them say that pass a test
  stand-kept : (test : Element → Bool) (c : Content) → StandAt (places_in c) (flat_map say (filter test (elements_in c)))
  stand-kept test Content.none = stand-none []
  stand-kept test (Content.chars text after) = stand-kept test after
  stand-kept test (Content.child place name attributes inner after) =
      let e : Element = record { place = place; name = name; attributes = attributes; content = inner } in
      cond_both (test e) (e ∷ filter test (elements_in after)) (filter test (elements_in after)) (λ es. StandAt (own_places e ++ places_in after) (flat_map say es))
      (λ _. stand-append (own_places e) (places_in after) (say e) (flat_map say (filter test (elements_in after))) (each e) (stand-kept test after))
      (λ _. stand-behind (own_places e) (places_in after) (flat_map say (filter test (elements_in after))) (stand-kept test after))

  -- what the children of a name say
  stand-children : (name : List ℕ) (e : Element) → StandAt (own_places e) (flat_map say (children name e))
  stand-children name e = stand-behind (e.place ∷ []) (places_in e.content) (flat_map say (children name e)) (stand-kept (is_named name) e.content)

  stand-inside : (e : Element) → StandAt (own_places e) (flat_map say (elements_in e.content))
  stand-inside e = stand-behind (e.place ∷ []) (places_in e.content) (flat_map say (elements_in e.content)) (stand-each e.content)

tag-stands : (e : Element) → StandAt (own_places e) (tag_items e)
tag-stands e =
    stand-unless (own_places e) e (word_if (is_none (name_of e)) (codes "name")) (Item.tags (own_name e) ∷ [])
    (stand-one (own_places e) (Item.tags (own_name e)) refl tt)

-- types and commands

lacks-stand : (parts : List Element) → StandAt [] (lacks parts)
lacks-stand [] = stand-none []
lacks-stand (part ∷ parts) =
    stand-append [] [] (map (bad_at part) (part_words part)) (lacks parts) (stand-bad [] part (part_words part)) (lacks-stand parts)

repeated-stand : (seen : List (List ℕ)) (members : List MemberForm) → StandAt [] (repeated seen members)
repeated-stand seen [] = stand-none []
repeated-stand seen (member ∷ more) =
    let fault : Item = Item.wrong (record { code = DuplicateName; at = member.place; word = member.name }) in
    stand-append [] [] (cond (is_among seen member.name) (fault ∷ []) []) (repeated (member.name ∷ seen) more)
    (stand-if [] (is_among seen member.name) (fault ∷ []) (stand-one [] fault refl tt))
    (repeated-stand (member.name ∷ seen) more)

faults-stand : (api : List ℕ) (kind : Kind) (e : Element) → StandAt [] (part_faults api kind e)
faults-stand api kind e =
    let proto : List Item = lacks (option_to_list (proto_in kind e)) in
    let members : List Item = lacks (members_in api kind e) in
    stand-append [] [] (proto ++ members) (repeated [] (map member_of (sound_members api kind e)))
    (stand-append [] [] proto members (lacks-stand (option_to_list (proto_in kind e))) (lacks-stand (members_in api kind e)))
    (repeated-stand [] (map member_of (sound_members api kind e)))

declared-stands : (places : List ℕ) (row : List ℕ → Declaration) (mentions : List Mention) → ((own : List ℕ) → StandAt places (Item.declares (row own) ∷ [])) → (name : Option (List ℕ)) → StandAt places (declared row mentions name)
declared-stands places row mentions each None = stand-mentions places mentions
declared-stands places row mentions each (Some name) = each name

-- what is wrong with the parts, and then what is declared
row-stands : (api : List ℕ) (kind : Kind) (e : Element) (alias : Bool) (row : List ℕ → Declaration) (mentions : List Mention) (name : Option (List ℕ))
    → ((own : List ℕ) → StandAt (own_places e) (Item.declares (row own) ∷ []))
    → StandAt (own_places e) (cond alias [] (part_faults api kind e) ++ declared row mentions name)
row-stands api kind e alias row mentions name each =
    stand-faults (own_places e) (cond alias [] (part_faults api kind e)) (declared row mentions name)
    (stand-unless_alias [] alias (part_faults api kind e) (faults-stand api kind e))
    (declared-stands (own_places e) row mentions each name)

known-stands : (api : List ℕ) (e : Element) (known : Option Kind) → StandAt (own_places e) (option_map_or (kind_items api e) known [])
known-stands api e None = stand-none (own_places e)
known-stands api e (Some kind) =
    row-stands api kind e (has (codes "alias") e) (type_row api kind e) (type_mentions api kind e) (type_name kind e)
    (λ own. stand-declared (type_row api kind e own) (places_in e.content) (type-mentions_none api kind e own))

type-stands : (api : List ℕ) (e : Element) → StandAt (own_places e) (type_items api e)
type-stands api e =
    stand-if (own_places e) (counts api e) _
    (stand-unless (own_places e) e (type_words e) (option_map_or (kind_items api e) (kind_of e) []) (known-stands api e (kind_of e)))

command-stands : (api : List ℕ) (e : Element) → StandAt (own_places e) (command_items api e)
command-stands api e =
    stand-if (own_places e) (counts api e) _
    (stand-unless (own_places e) e (command_words e) _
    (row-stands api kind.Command e (has (codes "alias") e) (command_row api e) (command_mentions api e) (command_name e)
    (λ own. stand-declared (command_row api e own) (places_in e.content) (inl refl))))

-- enumerants and constants

strays-stand : (is_enum : List ℕ → Bool) (e : Element) → StandAt [] (strays is_enum e)
strays-stand is_enum e = go (value_of (codes "extends") e)
  where
    go : (o : Option (List ℕ)) → StandAt [] (option_map_or (λ of. cond (is_enum of) [] (wrong_at UnknownName e of ∷ [])) o [])
    go None = stand-none []
    go (Some of) = stand-unless_alias [] (is_enum of) (wrong_at UnknownName e of ∷ []) (stand-one [] (wrong_at UnknownName e of) refl tt)

module _ (e : Element) where
  constant-stands : StandAt (own_places e) (Item.declares (constant_row e) ∷ [])
  constant-stands = stand-declared (constant_row e) (places_in e.content) (constant-mentions_none e)

  entry-one : (places : List ℕ) → StandAt places (entry_of e ∷ [])
  entry-one places = stand-one places (entry_of e) refl tt

  -- a constant that has a value, and its name in the block
  plain-stands : (given : Bool) → StandAt (own_places e) (cond given (Item.declares (constant_row e) ∷ []) [] ++ entry_of e ∷ [])
  plain-stands false = entry-one (own_places e)
  plain-stands true = record {
    part = constant-stands.part;
    sorted = All-append IsSorted (Item.declares (constant_row e) ∷ []) (entry_of e ∷ []) constant-stands.sorted (entry-one []).sorted;
  }

  role-stands : (role : Role) (number : Option ℕ) → StandAt (own_places e) (role_items role number e)
  role-stands (standing.Base of) number =
      stand-some (own_places e) (λ given. Item.numbers (enum_row of true e given)) (λ given. stand-one (own_places e) (Item.numbers (enum_row of true e given)) refl tt) (given_of number e)
  role-stands standing.Constant number = constant-stands
  role-stands standing.Lost number = stand-none (own_places e)
  role-stands (standing.Extending of) number =
      stand-faults (own_places e) (option_map_or (λ given. Item.numbers (enum_row of false e given) ∷ []) (given_of number e) []) (entry_of e ∷ [])
      (stand-some [] (λ given. Item.numbers (enum_row of false e given)) (λ given. stand-one [] (Item.numbers (enum_row of false e given)) refl tt) (given_of number e))
      (entry-one (own_places e))
  role-stands standing.Astray number = stand-unless_alias (own_places e) (is_some (given_of number e)) (entry_of e ∷ []) (entry-one (own_places e))
  role-stands standing.Plain number = plain-stands (is_some (given_of number e))

module _ (api : List ℕ) (is_enum : List ℕ → Bool) where
  enum-stands : (role : Role) (number : Option ℕ) (e : Element) → StandAt (own_places e) (enum_items api is_enum role number e)
  enum-stands role number e =
      stand-if (own_places e) (counts api e) _
      (stand-unless (own_places e) e (enum_words role number e) (strays is_enum e ++ role_items role number e)
      (stand-faults (own_places e) (strays is_enum e) (role_items role number e) (strays-stand is_enum e) (role-stands e role number)))

  group-stands : (name : List ℕ) (role : Role) (e : Element) → StandAt (own_places e) (group_items api is_enum name role e)
  group-stands name role e =
      let inner : List Item = flat_map (grouped_items api is_enum role) (children (codes "enum") e) in
      stand-unless (own_places e) e (group_words e) _
      (stand-besides (own_places e) (Item.groups (record { place = e.place; name = name; shape = shape_of e })) inner refl tt
      (stand-children (grouped_items api is_enum role) (λ inner. enum-stands (role_in_group is_enum role inner) None inner) (codes "enum") e))

  named-stands : (e : Element) (o : Option (List ℕ)) → StandAt (own_places e) (option_map_or (named_group api is_enum e) o (bad_at e (codes "name") ∷ []))
  named-stands e None = stand-one (own_places e) (bad_at e (codes "name")) refl tt
  named-stands e (Some name) =
      let Holds : List Item → Type 0 = StandAt (own_places e) in
      cond_both (bytes_eq name (codes "API Constants")) (group_items api is_enum name standing.Constant e) _ Holds (λ _. group-stands name standing.Constant e)
      (λ _. cond_both (not (is_name name)) (bad_at e (codes "name") ∷ []) _ Holds (λ _. stand-one (own_places e) (bad_at e (codes "name")) refl tt)
      (λ _. stand-if (own_places e) (is_enum name) (group_items api is_enum name (standing.Base name) e) (group-stands name (standing.Base name) e)))

  enums-stand : (e : Element) → StandAt (own_places e) (enums_items api is_enum e)
  enums-stand e = named-stands e (value_of (codes "name") e)

  -- blocks, and what stands in them

  entry-stands : (sort : Sort) (e : Element) → StandAt (own_places e) (named_entry api sort e)
  entry-stands sort e =
      let entry : Item = Item.lists (record { place = e.place; name = own_name e; sort = sort }) in
      stand-if (own_places e) (counts api e) _
      (stand-unless (own_places e) e (word_if (is_none (name_of e)) (codes "name")) (entry ∷ []) (stand-one (own_places e) entry refl tt))

  required-stands : (number : Option ℕ) (e : Element) → StandAt (own_places e) (required_items api is_enum number e)
  required-stands number e =
      let Holds : List Item → Type 0 = StandAt (own_places e) in
      cond_both (is_named (codes "type") e) (named_entry api sort.Type e) _ Holds (λ _. entry-stands sort.Type e)
      (λ _. cond_both (is_named (codes "command") e) (named_entry api sort.Command e) _ Holds (λ _. entry-stands sort.Command e)
      (λ _. stand-if (own_places e) (is_named (codes "enum") e) (enum_items api is_enum (role_in_block is_enum e) number e) (enum-stands (role_in_block is_enum e) number e)))

  removed-stands : (e : Element) → StandAt (own_places e) (removed_items api e)
  removed-stands e =
      let Holds : List Item → Type 0 = StandAt (own_places e) in
      cond_both (is_named (codes "type") e) (named_entry api sort.Type e) _ Holds (λ _. entry-stands sort.Type e)
      (λ _. cond_both (is_named (codes "command") e) (named_entry api sort.Command e) _ Holds (λ _. entry-stands sort.Command e)
      (λ _. stand-if (own_places e) (is_named (codes "enum") e) (named_entry api sort.Value e) (entry-stands sort.Value e)))

  -- a block of this kind, with what stands in it
  opened-stands : (adds : Bool) (say : Element → List Item) → ((e : Element) → StandAt (own_places e) (say e)) → (e : Element) → StandAt (own_places e) (Item.opens e.place adds (value_of (codes "depends") e) ∷ flat_map say (elements_in e.content))
  opened-stands adds say each e =
      stand-besides (own_places e) (Item.opens e.place adds (value_of (codes "depends") e)) (flat_map say (elements_in e.content)) refl tt (stand-inside say each e)

  block-stands : (number : Option ℕ) (e : Element) → StandAt (own_places e) (block_items api is_enum number e)
  block-stands number e =
      stand-if (own_places e) (counts api e) _
      (cond_both (is_named (codes "require") e) (Item.opens e.place true (value_of (codes "depends") e) ∷ flat_map (required_items api is_enum number) (elements_in e.content)) _ (StandAt (own_places e))
      (λ _. opened-stands true (required_items api is_enum number) (required-stands number) e)
      (λ _. stand-if (own_places e) (is_named (codes "remove") e) (Item.opens e.place false (value_of (codes "depends") e) ∷ flat_map (removed_items api) (elements_in e.content))
      (opened-stands false (removed_items api) removed-stands e)))

  -- an option, with its blocks
  offered-stands : (number : Option ℕ) (version : Option (ℕ × ℕ)) (depends : Option (List ℕ)) (e : Element) → StandAt (own_places e) (Item.offers e.place (own_name e) version depends ∷ blocks_of api is_enum number e)
  offered-stands number version depends e =
      stand-besides (own_places e) (Item.offers e.place (own_name e) version depends) (blocks_of api is_enum number e) refl tt
      (stand-inside (block_items api is_enum number) (block-stands number) e)

  feature-stands : (earlier : List (ℕ × ℕ)) (e : Element) → StandAt (own_places e) (feature_items api is_enum earlier e)
  feature-stands earlier e =
      let mark : List Item = cond (has (codes "apitype") e) (wrong_at ApiType e (own_name e) ∷ []) [] in
      let offered : List Item = Item.offers e.place (own_name e) (version_of e) None ∷ blocks_of api is_enum None e in
      stand-unless (own_places e) e (feature_words earlier e) (mark ++ offered)
      (stand-faults (own_places e) mark offered
      (stand-if [] (has (codes "apitype") e) (wrong_at ApiType e (own_name e) ∷ []) (stand-one [] (wrong_at ApiType e (own_name e)) refl tt))
      (offered-stands None (version_of e) None e))

  extension-stands : (e : Element) → StandAt (own_places e) (extension_items api is_enum e)
  extension-stands e =
      cond_both (not (has (codes "supported") e)) (bad_at e (codes "supported") ∷ []) _ (StandAt (own_places e))
      (λ _. stand-one (own_places e) (bad_at e (codes "supported")) refl tt)
      (λ _. stand-if (own_places e) (lists (codes "supported") api e) (supported_items api is_enum e)
      (stand-unless (own_places e) e (extension_words e) _ (offered-stands (number_in (codes "number") e) None (value_of (codes "depends") e) e)))

  child-stands : (earlier : List (ℕ × ℕ)) (e : Element) → StandAt (own_places e) (child_items api is_enum earlier e)
  child-stands earlier e =
      let Holds : List Item → Type 0 = StandAt (own_places e) in
      cond_both (is_named (codes "tags") e) (flat_map tag_items (children (codes "tag") e)) _ Holds (λ _. stand-children tag_items tag-stands (codes "tag") e)
      (λ _. cond_both (is_named (codes "types") e) (flat_map (type_items api) (children (codes "type") e)) _ Holds
      (λ _. stand-children (type_items api) (type-stands api) (codes "type") e)
      (λ _. cond_both (is_named (codes "enums") e) (enums_items api is_enum e) _ Holds (λ _. enums-stand e)
      (λ _. cond_both (is_named (codes "commands") e) (flat_map (command_items api) (children (codes "command") e)) _ Holds
      (λ _. stand-children (command_items api) (command-stands api) (codes "command") e)
      (λ _. cond_both (is_feature api e) (feature_items api is_enum earlier e) _ Holds (λ _. feature-stands earlier e)
      (λ _. stand-if (own_places e) (is_named (codes "extensions") e) (flat_map (extension_items api is_enum) (children (codes "extension") e))
      (stand-children (extension_items api is_enum) extension-stands (codes "extension") e))))))

  all-stand : (c : Content) (earlier : List (ℕ × ℕ)) → StandAt (places_in c) (children_items api is_enum earlier (elements_in c))
  all-stand Content.none earlier = stand-none []
  all-stand (Content.chars text after) earlier = all-stand after earlier
  all-stand (Content.child place name attributes inner after) earlier =
      let e : Element = record { place = place; name = name; attributes = attributes; content = inner } in
      let later : List (ℕ × ℕ) = with_version api earlier e in
      stand-append (own_places e) (places_in after) (child_items api is_enum earlier e) (children_items api is_enum later (elements_in after)) (child-stands earlier e) (all-stand after later)

pub items-stand : (api : List ℕ) (root : Element) → StandAt (root.place ∷ places_in root.content) (items_of api root)
items-stand api root =
    let is_enum : List ℕ → Bool = is_enum_type (type_rows api root) in
    cond_both (is_named (codes "registry") root) (children_items api is_enum [] (elements_in root.content)) (bad_at root (codes "registry") ∷ []) (StandAt (own_places root))
    (λ _. stand-behind (root.place ∷ []) (places_in root.content) (children_items api is_enum [] (elements_in root.content)) (all-stand api is_enum root.content []))
    (λ _. stand-one (own_places root) (bad_at root (codes "registry")) refl tt)
