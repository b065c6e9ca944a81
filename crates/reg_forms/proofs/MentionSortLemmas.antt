-- What a type or a constant mentions has to be a type or a constant.
use Rattle.std.proofs.Common.{inl, inr, ℕ, Bool, true, false, List, [], ◌∷◌, ◌++◌, map, filter, Option, Some, None, cond, refl}
use Rattle.std.specs.Prelude.{All, codes, option_map}
use Rattle.std.specs.List.{flat_map}
use Rattle.std.specs.Option.{option_to_list}
use Rattle.std.proofs.lemmas.List.Elements.{All-append, All-cons, All-nil}
use Rattle.reg_registry.specs.declared.kinds.Kind.{Kind}
use Rattle.reg_reader.specs.Views.{Element}
use Rattle.reg_forms.specs.declared.forms.Mention.{Mention}
use Rattle.reg_forms.specs.declared.forms.Sort.{Sort}
use Rattle.reg_forms.specs.declared.forms.Sort.TheVariants as sort
use Rattle.reg_forms.specs.Attributes.{child, children, has, value_of}
use Rattle.reg_forms.specs.Declarations.{type_mentions, type_row}
use Rattle.reg_forms.specs.Enums.{constant_row}
use Rattle.reg_forms.specs.Laws.{IsCommandOrMentionsNone, IsTypeOrConstant}
use Rattle.reg_forms.specs.Parts.{inner_mentions, is_sound, member_mentions, mention_in, mention_of, proto_in, sound_members, type_mention}

abbrev NoCommand : Mention → Type 0
NoCommand m = IsTypeOrConstant m.sort

-- each has to be a type or a constant
abbrev NoCommands : List Mention → Type 0
NoCommands mentions = All (λ m. IsTypeOrConstant m.sort) mentions

both : (xs ys : List Mention) → NoCommands xs → NoCommands ys → NoCommands (xs ++ ys)
both xs ys first second = All-append (λ m. IsTypeOrConstant m.sort) xs ys first second

optional : {A : Type 0} (say : A → Mention) → ((x : A) → NoCommand (say x)) → (o : Option A) → NoCommands (option_to_list (option_map say o))
optional say each None = All-nil (λ m. IsTypeOrConstant m.sort)
optional say each (Some x) = All-cons (λ m. IsTypeOrConstant m.sort) (say x) [] (each x) (All-nil (λ m. IsTypeOrConstant m.sort))

each-of : (say : Element → List Mention) → ((e : Element) → NoCommands (say e)) → (es : List Element) → NoCommands (flat_map say es)
each-of say each [] = All-nil (λ m. IsTypeOrConstant m.sort)
each-of say each (e ∷ es) = both (say e) (flat_map say es) (each e) (each-of say each es)

module _ (named : Sort) (is : IsTypeOrConstant named) where
  attribute-sort : (attribute : List ℕ) (e : Element) → NoCommands (mention_in attribute named e)
  attribute-sort attribute e = optional (λ name. record { place = e.place; name = name; sort = named }) (λ name. is) (value_of attribute e)

  child-sort : (o : Option Element) → NoCommands (option_to_list (option_map (mention_of named) o))
  child-sort o = optional (mention_of named) (λ e. is) o

  texts-sort : (es : List Element) → NoCommands (map (mention_of named) es)
  texts-sort [] = All-nil (λ m. IsTypeOrConstant m.sort)
  texts-sort (e ∷ es) = All-cons (λ m. IsTypeOrConstant m.sort) (mention_of named e) (map (mention_of named) es) is (texts-sort es)

part-sort : (e : Element) → NoCommands (type_mention e)
part-sort e = child-sort sort.Type (inl refl) (child (codes "type") e)

member-sort : (e : Element) → NoCommands (member_mentions e)
member-sort e =
    both (type_mention e) (map (mention_of sort.Constant) (children (codes "enum") e)) (part-sort e)
    (texts-sort sort.Constant (inr refl) (children (codes "enum") e))

module _ (api : List ℕ) (kind : Kind) (e : Element) where
  inner-sort : NoCommands (inner_mentions api kind e)
  inner-sort =
      both (flat_map type_mention (filter is_sound (option_to_list (proto_in kind e)))) (flat_map member_mentions (sound_members api kind e))
      (each-of type_mention part-sort (filter is_sound (option_to_list (proto_in kind e))))
      (each-of member_mentions member-sort (sound_members api kind e))

  -- what a type mentions in its attributes, and then what it mentions that is no alias
  type-sort : NoCommands (type_mentions api kind e)
  type-sort =
      let named_in : List ℕ → List Mention = λ attribute. mention_in attribute sort.Type e in
      let types : List Mention = map (mention_of sort.Type) (children (codes "type") e) in
      let attributed = attribute-sort sort.Type (inl refl) in
      both (named_in (codes "alias") ++ named_in (codes "requires") ++ named_in (codes "bitvalues")) _
      (both (named_in (codes "alias") ++ named_in (codes "requires")) (named_in (codes "bitvalues"))
      (both (named_in (codes "alias")) (named_in (codes "requires")) (attributed (codes "alias") e) (attributed (codes "requires") e))
      (attributed (codes "bitvalues") e))
      (unless_alias (has (codes "alias") e) (types ++ inner_mentions api kind e)
      (both types (inner_mentions api kind e) (texts-sort sort.Type (inl refl) (children (codes "type") e)) inner-sort))
    where
      unless_alias : (alias : Bool) (mentions : List Mention) → NoCommands mentions → NoCommands (cond alias [] mentions)
      unless_alias true mentions none = All-nil (λ m. IsTypeOrConstant m.sort)
      unless_alias false mentions none = none

  pub type-mentions_none : (name : List ℕ) → IsCommandOrMentionsNone (type_row api kind e name)
  type-mentions_none name = inr type-sort

pub constant-mentions_none : (e : Element) → IsCommandOrMentionsNone (constant_row e)
constant-mentions_none e = inr (attribute-sort sort.Constant (inr refl) (codes "alias") e)
