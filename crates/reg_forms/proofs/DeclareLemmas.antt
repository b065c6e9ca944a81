-- Types and commands, put in piece by piece.
use Rattle.std.proofs.Common.{◌≡◌, ℕ, List, [], ◌∷◌, ◌++◌, Bool, true, false, Option, Some, None, codes, is_some, map, cond, ap, ◌∙◌}
use Rattle.std.specs.Option.{option_map_or}
use Rattle.std.proofs.lemmas.List.{append-nil}
use Rattle.reg_registry.specs.declared.kinds.Kind.{Kind}
use Rattle.reg_registry.specs.declared.kinds.Kind.TheVariants as kind
use Rattle.reg_reader.specs.Views.{Element}
use Rattle.reg_forms.specs.declared.forms.Declaration.{Declaration}
use Rattle.reg_forms.specs.declared.forms.Forms.{Forms}
use Rattle.reg_forms.specs.declared.forms.Mention.{Mention}
use Rattle.reg_forms.specs.declared.forms.Sort.TheVariants as sort
use Rattle.reg_forms.specs.Attributes.{child, children, counts, has, has_value, parts_of, value_of}
use Rattle.reg_forms.specs.Declarations.{bits_of, command_items, command_mentions, command_name, command_row, command_words, declared, is_named_within, kind_of, type_items, type_mentions, type_name, type_row}
use Rattle.reg_forms.specs.Forms.{with_item, with_items}
use Rattle.reg_forms.specs.Items.{Item, unless_bad}
use Rattle.reg_forms.specs.Parts.{inner_mentions, mention_in, mention_of, name_inside, part_faults, proto_in}
use Rattle.reg_forms.proofs.DeclarationLemmas.{type_items-within}
use Rattle.reg_forms.proofs.ItemLemmas.{with_both}

-- faults of parts, and then a declaration
pub put_declared : (old middle now : Forms) (faults : List Item) (row said : Declaration) → middle ≡ with_items old faults → row ≡ said → now ≡ with_item middle (Item.declares row) → now ≡ with_items old (faults ++ Item.declares said ∷ [])
put_declared old middle now faults row said first same second =
    with_both old middle now faults (Item.declares said ∷ []) first (second ∙ ap (λ r. with_item middle (Item.declares r)) same)

-- faults of parts, and then mentions
pub put_mentioned : (old middle now : Forms) (faults : List Item) (mentions said : List Mention) → middle ≡ with_items old faults → mentions ≡ said → now ≡ with_items middle (map Item.mentions mentions) → now ≡ with_items old (faults ++ map Item.mentions said)
put_mentioned old middle now faults mentions said first same second =
    with_both old middle now faults (map Item.mentions said) first (second ∙ ap (λ m. with_items middle (map Item.mentions m)) same)

module _ (api : List ℕ) (e : Element) (kind : Kind) where
  -- the row of an alias
  pub type_row-alias : (name alias : List ℕ) → value_of (codes "alias") e ≡ Some alias → type_row api kind e name ≡ record {
    place = e.place;
    name = name;
    kind = kind;
    alias = Some alias;
    text = [];
    result = [];
    prototyped = false;
    returned = has_value (codes "returnedonly") (codes "true") e;
    bits = bits_of kind e;
    extends = option_map_or parts_of (value_of (codes "structextends") e) [];
    members = [];
    mentions = mention_in (codes "alias") sort.Type e ++ mention_in (codes "requires") sort.Type e ++ mention_in (codes "bitvalues") sort.Type e;
  }
  type_row-alias name alias aliased = rw (aliased, append-nil)

  -- what a type mentions that is no alias
  pub type_mentions-plain : (mentions inner : List Mention) → value_of (codes "alias") e ≡ None → mentions ≡ mention_in (codes "alias") sort.Type e ++ mention_in (codes "requires") sort.Type e ++ mention_in (codes "bitvalues") sort.Type e ++ (map (mention_of sort.Type) (children (codes "type") e) ++ inner) → inner ≡ inner_mentions api kind e → mentions ≡ type_mentions api kind e
  type_mentions-plain mentions inner plain made same =
      made ∙ ap (λ i. mention_in (codes "alias") sort.Type e ++ mention_in (codes "requires") sort.Type e ++ mention_in (codes "bitvalues") sort.Type e ++ (map (mention_of sort.Type) (children (codes "type") e) ++ i)) same
      ∙ (rw plain)

  -- it has no name, and a prototype in which to look for it
  within-proto : (proto : Element) → value_of (codes "alias") e ≡ None → has (codes "name") e ≡ false → proto_in kind e ≡ Some proto → is_named_within kind e ≡ true
  within-proto proto plain unnamed prototyped = rw (prototyped, plain, unnamed)

  pub type_items-inner : (proto : Element) → counts api e ≡ true → kind_of e ≡ Some kind → value_of (codes "alias") e ≡ None → type_name kind e ≡ None → has (codes "name") e ≡ false → proto_in kind e ≡ Some proto → type_items api e ≡ part_faults api kind e ++ map Item.mentions (type_mentions api kind e)
  type_items-inner proto counted known plain nameless unnamed prototyped =
      type_items-within api e counted kind known nameless (within-proto proto plain unnamed prototyped)
      ∙ ap (λ b. cond b [] (part_faults api kind e) ++ map Item.mentions (type_mentions api kind e)) (ap is_some plain)

module _ (api : List ℕ) (e proto : Element) (counted : counts api e ≡ true) (plain : value_of (codes "alias") e ≡ None) (prototyped : child (codes "proto") e ≡ Some proto) where
  -- a command by its words, whether it is an alias, and its name
  abbrev said : List (List ℕ) → Bool → Option (List ℕ) → List Item
  said words alias name =
      unless_bad e words (cond alias [] (part_faults api kind.Command e) ++ declared (command_row api e) (command_mentions api e) name)

  command_items-said : command_items api e ≡ said (command_words e) (has (codes "alias") e) (command_name e)
  command_items-said = rw counted

  command_words-plain : command_words e ≡ []
  command_words-plain = rw (plain, prototyped)

  command_name-plain : command_name e ≡ name_inside proto
  command_name-plain = rw (plain, prototyped)

  command_items-plain : (name : Option (List ℕ)) → name_inside proto ≡ name → command_items api e ≡ said [] false name
  command_items-plain name named =
      command_items-said ∙ ap (λ words. said words (has (codes "alias") e) (command_name e)) command_words-plain
      ∙ ap (λ alias. said [] alias (command_name e)) (ap is_some plain)
      ∙ ap (said [] false) (command_name-plain ∙ named)

  pub command_items-named : (name : List ℕ) → name_inside proto ≡ Some name → command_items api e ≡ part_faults api kind.Command e ++ Item.declares (command_row api e name) ∷ []
  command_items-named name named = command_items-plain (Some name) named

  command_mentions-plain : command_mentions api e ≡ inner_mentions api kind.Command e
  command_mentions-plain = rw plain

  pub command_items-nameless : name_inside proto ≡ None → command_items api e ≡ part_faults api kind.Command e ++ map Item.mentions (inner_mentions api kind.Command e)
  command_items-nameless nameless =
      command_items-plain None nameless
      ∙ ap (λ mentions. part_faults api kind.Command e ++ map Item.mentions mentions) command_mentions-plain
