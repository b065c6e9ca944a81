-- Which elements say nothing of the number of a feature: all but the features of the API.
use Rattle.std.proofs.Common.{◌≡◌, ℕ, Bool, true, false, List, [], ◌∷◌, ◌++◌, map, Option, Some, None, cond, refl, ap, ◌∙◌}
use Rattle.std.specs.Prelude.{codes, is_none, is_some, not}
use Rattle.std.specs.List.{flat_map}
use Rattle.std.specs.Option.{option_map_or, option_to_list}
use Rattle.std.specs.Str.{bytes_eq}
use Rattle.std.proofs.lemmas.Bool.{cond_both}
use Rattle.std.proofs.lemmas.Grind.{flat_map-append}
use Rattle.reg_registry.specs.Words.{is_name}
use Rattle.reg_registry.specs.declared.kinds.Kind.{Kind}
use Rattle.reg_registry.specs.declared.kinds.Kind.TheVariants as kind
use Rattle.reg_reader.specs.Views.{Element, elements_in}
use Rattle.reg_forms.specs.declared.enum_attributes.Role.{Role}
use Rattle.reg_forms.specs.declared.enum_attributes.Role.TheVariants as standing
use Rattle.reg_forms.specs.declared.forms.Declaration.{Declaration}
use Rattle.reg_forms.specs.declared.forms.MemberForm.{MemberForm}
use Rattle.reg_forms.specs.declared.forms.Mention.{Mention}
use Rattle.reg_forms.specs.declared.forms.RowCode.TheVariants.{DuplicateName, UnknownName}
use Rattle.reg_forms.specs.declared.forms.Sort.{Sort}
use Rattle.reg_forms.specs.declared.forms.Sort.TheVariants as sort
use Rattle.reg_forms.specs.Attributes.{children, counts, has, is_named, lists, name_of, value_of, word_if}
use Rattle.reg_forms.specs.Declarations.{command_items, command_mentions, command_name, command_row, command_words, declared, kind_items, kind_of, type_items, type_mentions, type_name, type_row, type_words}
use Rattle.reg_forms.specs.Enums.{constant_row, entry_of, enum_items, enum_row, enum_words, enums_items, given_of, group_items, group_words, grouped_items, named_group, number_in, own_name, role_in_block, role_in_group, role_items, strays}
use Rattle.reg_forms.specs.Forms.{tag_items}
use Rattle.reg_forms.specs.Items.{Item, bad_at, unless_bad, wrong_at}
use Rattle.reg_forms.specs.Options.{block_items, blocks_of, extension_items, extension_words, named_entry, removed_items, required_items, supported_items}
use Rattle.reg_forms.specs.Parts.{is_among, lacks, member_of, members_in, part_faults, part_words, proto_in, repeated, sound_members}

-- the number of a feature in what is said, if there is one
abbrev pub number_said : Item → List (ℕ × ℕ)
number_said (Item.offers place name version depends) = option_to_list version
number_said _ = []

-- the numbers of the features in what is said, in order
abbrev pub versions_in : List Item → List (ℕ × ℕ)
versions_in items = flat_map number_said items

abbrev pub IsSilent : List Item → Type 0
IsSilent items = versions_in items ≡ []

pub silent-append : (xs ys : List Item) → IsSilent xs → IsSilent ys → IsSilent (xs ++ ys)
silent-append xs ys first second = flat_map-append number_said xs ys ∙ ap (λ versions. versions ++ versions_in ys) first ∙ second

pub silent-if : (test : Bool) (items : List Item) → IsSilent items → IsSilent (cond test items [])
silent-if true items silent = silent
silent-if false items silent = refl

silent-unless_alias : (alias : Bool) (items : List Item) → IsSilent items → IsSilent (cond alias [] items)
silent-unless_alias true items silent = refl
silent-unless_alias false items silent = silent

pub silent-bad : (e : Element) (words : List (List ℕ)) → IsSilent (map (bad_at e) words)
silent-bad e [] = refl
silent-bad e (word ∷ words) = silent-bad e words

silent-unless : (e : Element) (words : List (List ℕ)) (items : List Item) → IsSilent items → IsSilent (unless_bad e words items)
silent-unless e [] items silent = silent
silent-unless e (word ∷ words) items silent = silent-bad e (word ∷ words)

silent-mentions : (mentions : List Mention) → IsSilent (map Item.mentions mentions)
silent-mentions [] = refl
silent-mentions (mention ∷ mentions) = silent-mentions mentions

-- what elements say, each of which is silent
pub silent-each : (say : Element → List Item) → ((e : Element) → IsSilent (say e)) → (es : List Element) → IsSilent (flat_map say es)
silent-each say each [] = refl
silent-each say each (e ∷ es) = silent-append (say e) (flat_map say es) (each e) (silent-each say each es)

silent-some : {A : Type 0} (say : A → Item) → ((x : A) → IsSilent (say x ∷ [])) → (o : Option A) → IsSilent (option_map_or (λ x. say x ∷ []) o [])
silent-some say each None = refl
silent-some say each (Some x) = each x

pub tag-silent : (e : Element) → IsSilent (tag_items e)
tag-silent e = silent-unless e (word_if (is_none (name_of e)) (codes "name")) (Item.tags (own_name e) ∷ []) refl

-- types and commands

lacks-silent : (parts : List Element) → IsSilent (lacks parts)
lacks-silent parts = silent-each (λ part. map (bad_at part) (part_words part)) (λ part. silent-bad part (part_words part)) parts

repeated-silent : (seen : List (List ℕ)) (members : List MemberForm) → IsSilent (repeated seen members)
repeated-silent seen [] = refl
repeated-silent seen (member ∷ more) =
    let fault : Item = Item.wrong (record { code = DuplicateName; at = member.place; word = member.name }) in
    silent-append (cond (is_among seen member.name) (fault ∷ []) []) (repeated (member.name ∷ seen) more)
    (silent-if (is_among seen member.name) (fault ∷ []) refl)
    (repeated-silent (member.name ∷ seen) more)

faults-silent : (api : List ℕ) (kind : Kind) (e : Element) → IsSilent (part_faults api kind e)
faults-silent api kind e =
    let proto : List Item = lacks (option_to_list (proto_in kind e)) in
    let members : List Item = lacks (members_in api kind e) in
    silent-append (proto ++ members) (repeated [] (map member_of (sound_members api kind e)))
    (silent-append proto members (lacks-silent (option_to_list (proto_in kind e))) (lacks-silent (members_in api kind e)))
    (repeated-silent [] (map member_of (sound_members api kind e)))

declared-silent : (row : List ℕ → Declaration) (mentions : List Mention) (name : Option (List ℕ)) → IsSilent (declared row mentions name)
declared-silent row mentions None = silent-mentions mentions
declared-silent row mentions (Some name) = refl

-- what is wrong with the parts, and then what is declared
row-silent : (api : List ℕ) (kind : Kind) (e : Element) (alias : Bool) (row : List ℕ → Declaration) (mentions : List Mention) (name : Option (List ℕ))
    → IsSilent (cond alias [] (part_faults api kind e) ++ declared row mentions name)
row-silent api kind e alias row mentions name =
    silent-append (cond alias [] (part_faults api kind e)) (declared row mentions name)
    (silent-unless_alias alias (part_faults api kind e) (faults-silent api kind e))
    (declared-silent row mentions name)

known-silent : (api : List ℕ) (e : Element) (known : Option Kind) → IsSilent (option_map_or (kind_items api e) known [])
known-silent api e None = refl
known-silent api e (Some kind) = row-silent api kind e (has (codes "alias") e) (type_row api kind e) (type_mentions api kind e) (type_name kind e)

pub type-silent : (api : List ℕ) (e : Element) → IsSilent (type_items api e)
type-silent api e =
    silent-if (counts api e) _ (silent-unless e (type_words e) (option_map_or (kind_items api e) (kind_of e) []) (known-silent api e (kind_of e)))

pub command-silent : (api : List ℕ) (e : Element) → IsSilent (command_items api e)
command-silent api e =
    silent-if (counts api e) _
    (silent-unless e (command_words e) _
    (row-silent api kind.Command e (has (codes "alias") e) (command_row api e) (command_mentions api e) (command_name e)))

-- enumerants and constants

strays-silent : (is_enum : List ℕ → Bool) (e : Element) → IsSilent (strays is_enum e)
strays-silent is_enum e = go (value_of (codes "extends") e)
  where
    go : (o : Option (List ℕ)) → IsSilent (option_map_or (λ of. cond (is_enum of) [] (wrong_at UnknownName e of ∷ [])) o [])
    go None = refl
    go (Some of) = silent-unless_alias (is_enum of) (wrong_at UnknownName e of ∷ []) refl

role-silent : (role : Role) (number : Option ℕ) (e : Element) → IsSilent (role_items role number e)
role-silent (standing.Base of) number e = silent-some (λ given. Item.numbers (enum_row of true e given)) (λ given. refl) (given_of number e)
role-silent standing.Constant number e = refl
role-silent standing.Lost number e = refl
role-silent (standing.Extending of) number e =
    silent-append (option_map_or (λ given. Item.numbers (enum_row of false e given) ∷ []) (given_of number e) []) (entry_of e ∷ [])
    (silent-some (λ given. Item.numbers (enum_row of false e given)) (λ given. refl) (given_of number e)) refl
role-silent standing.Astray number e = silent-unless_alias (is_some (given_of number e)) (entry_of e ∷ []) refl
role-silent standing.Plain number e =
    silent-append (cond (is_some (given_of number e)) (Item.declares (constant_row e) ∷ []) []) (entry_of e ∷ [])
    (silent-if (is_some (given_of number e)) (Item.declares (constant_row e) ∷ []) refl) refl

module _ (api : List ℕ) (is_enum : List ℕ → Bool) where
  enum-silent : (role : Role) (number : Option ℕ) (e : Element) → IsSilent (enum_items api is_enum role number e)
  enum-silent role number e =
      silent-if (counts api e) _
      (silent-unless e (enum_words role number e) (strays is_enum e ++ role_items role number e)
      (silent-append (strays is_enum e) (role_items role number e) (strays-silent is_enum e) (role-silent role number e)))

  group-silent : (name : List ℕ) (role : Role) (e : Element) → IsSilent (group_items api is_enum name role e)
  group-silent name role e =
      silent-unless e (group_words e) _
      (silent-each (grouped_items api is_enum role) (λ inner. enum-silent (role_in_group is_enum role inner) None inner) (children (codes "enum") e))

  named-silent : (e : Element) (o : Option (List ℕ)) → IsSilent (option_map_or (named_group api is_enum e) o (bad_at e (codes "name") ∷ []))
  named-silent e None = refl
  named-silent e (Some name) =
      cond_both (bytes_eq name (codes "API Constants")) (group_items api is_enum name standing.Constant e) _ IsSilent (λ _. group-silent name standing.Constant e)
      (λ _. cond_both (not (is_name name)) (bad_at e (codes "name") ∷ []) _ IsSilent (λ _. refl)
      (λ _. silent-if (is_enum name) (group_items api is_enum name (standing.Base name) e) (group-silent name (standing.Base name) e)))

  pub enums-silent : (e : Element) → IsSilent (enums_items api is_enum e)
  enums-silent e = named-silent e (value_of (codes "name") e)

  -- blocks, and what stands in them

  entry-silent : (sort : Sort) (e : Element) → IsSilent (named_entry api sort e)
  entry-silent sort e = silent-if (counts api e) _ (silent-unless e (word_if (is_none (name_of e)) (codes "name")) _ refl)

  required-silent : (number : Option ℕ) (e : Element) → IsSilent (required_items api is_enum number e)
  required-silent number e =
      cond_both (is_named (codes "type") e) (named_entry api sort.Type e) _ IsSilent (λ _. entry-silent sort.Type e)
      (λ _. cond_both (is_named (codes "command") e) (named_entry api sort.Command e) _ IsSilent (λ _. entry-silent sort.Command e)
      (λ _. silent-if (is_named (codes "enum") e) (enum_items api is_enum (role_in_block is_enum e) number e) (enum-silent (role_in_block is_enum e) number e)))

  removed-silent : (e : Element) → IsSilent (removed_items api e)
  removed-silent e =
      cond_both (is_named (codes "type") e) (named_entry api sort.Type e) _ IsSilent (λ _. entry-silent sort.Type e)
      (λ _. cond_both (is_named (codes "command") e) (named_entry api sort.Command e) _ IsSilent (λ _. entry-silent sort.Command e)
      (λ _. silent-if (is_named (codes "enum") e) (named_entry api sort.Value e) (entry-silent sort.Value e)))

  block-silent : (number : Option ℕ) (e : Element) → IsSilent (block_items api is_enum number e)
  block-silent number e =
      silent-if (counts api e) _
      (cond_both (is_named (codes "require") e) (Item.opens e.place true (value_of (codes "depends") e) ∷ flat_map (required_items api is_enum number) (elements_in e.content)) _ IsSilent
      (λ _. silent-each (required_items api is_enum number) (required-silent number) (elements_in e.content))
      (λ _. silent-if (is_named (codes "remove") e) (Item.opens e.place false (value_of (codes "depends") e) ∷ flat_map (removed_items api) (elements_in e.content))
      (silent-each (removed_items api) removed-silent (elements_in e.content))))

  pub blocks-silent : (number : Option ℕ) (e : Element) → IsSilent (blocks_of api is_enum number e)
  blocks-silent number e = silent-each (block_items api is_enum number) (block-silent number) (elements_in e.content)

  -- an extension has no number of that sort
  pub extension-silent : (e : Element) → IsSilent (extension_items api is_enum e)
  extension-silent e =
      cond_both (not (has (codes "supported") e)) (bad_at e (codes "supported") ∷ []) _ IsSilent (λ _. refl)
      (λ _. silent-if (lists (codes "supported") api e) (supported_items api is_enum e)
      (silent-unless e (extension_words e) _ (blocks-silent (number_in (codes "number") e) e)))
