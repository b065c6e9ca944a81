-- What types and commands say fits into the size of their elements.
use Rattle.std.proofs.Common.{ℕ, ◌<◌, ◌≤◌, Bool, true, false, List, [], ◌∷◌, ◌++◌, length, map, Option, Some, None, cond, arith}
use Rattle.std.specs.Prelude.{All, IfSome, codes, ◌||◌}
use Rattle.std.specs.Option.{option_map_or, option_to_list}
use Rattle.std.proofs.lemmas.Bool.{cond_both}
use Rattle.std.proofs.lemmas.List.Elements.{All-cons, All-nil}
use Rattle.std.proofs.lemmas.List.Sums.{sum_by-cons}
use Rattle.std.proofs.lemmas.Option.{IfSome_then}
use Rattle.vkb_bytes.specs.Trimming.{trim}
use Rattle.reg_registry.specs.declared.kinds.Kind.{Kind}
use Rattle.reg_registry.specs.declared.kinds.Kind.TheVariants as kind
use Rattle.reg_reader.specs.Views.{Element, element_size}
use Rattle.reg_forms.specs.declared.forms.Declaration.{Declaration}
use Rattle.reg_forms.specs.declared.forms.MemberForm.{MemberForm}
use Rattle.reg_forms.specs.declared.forms.Mention.{Mention}
use Rattle.reg_forms.specs.declared.forms.RowCode.TheVariants.{DuplicateName}
use Rattle.reg_forms.specs.declared.forms.Sort.TheVariants as sort
use Rattle.reg_forms.specs.Attributes.{child, counts, has, name_of, parts_of, text_of, value_of}
use Rattle.reg_forms.specs.Declarations.{command_items, command_mentions, command_name, command_row, command_words, declared, kind_items, kind_of, name_in_text, type_items, type_mentions, type_name, type_row, type_words}
use Rattle.reg_forms.specs.Items.{Item, bad_at}
use Rattle.reg_forms.specs.Parts.{is_among, lacks, member_of, members_in, name_inside, part_faults, part_words, proto_in, repeated, result_of, sound_members}
use Rattle.reg_forms.specs.Sizes.{IsSmallDeclaration, IsSmallMember}
use Rattle.reg_forms.proofs.ItemSizeLemmas.{Fits, IsSmallItem, fits-append, fits-bad, fits-mentions, fits-none, fits-unless, fits-wrong}
use Rattle.reg_forms.proofs.MemberSizeLemmas.{members-few, members-small, proto-within, result-short}
use Rattle.reg_forms.proofs.MentionSizeLemmas.{command-few, type-few}
use Rattle.reg_forms.proofs.TextSizeLemmas.{IsShortName, child-within, name_inside-short, name_of-short, or_empty-short, parts-few, text-short, trim-short, value-within}

-- a name that is within an element of these
inner-name : (o : Option Element) (most : ℕ) → IfSome o (λ inner. element_size inner ≤ most) → (other : Option (List ℕ)) → IfSome other (IsShortName most) → IfSome (option_map_or name_inside o other) (IsShortName most)
inner-name None most within other short = short
inner-name (Some inner) most within other short = IfSome_then (name_inside inner) (name_inside-short inner) (λ name is. (is.0, omega (arith, within, is.1)))

type_name-short : (kind : Kind) (e : Element) → IfSome (type_name kind e) (IsShortName (element_size e))
type_name-short kind e =
    cond_both (has (codes "name") e || has (codes "alias") e) (name_of e) (name_in_text kind e) (λ o. IfSome o (IsShortName (element_size e))) (λ _. name_of-short e)
    (λ _. inner-name (proto_in kind e) (element_size e) (IfSome_then (proto_in kind e) (proto-within kind e) (λ proto within. omega (arith, within))) (name_inside e) (name_inside-short e))

command_name-short : (e : Element) → IfSome (command_name e) (IsShortName (element_size e))
command_name-short e =
    let proto : Option Element = child (codes "proto") e in
    cond_both (has (codes "alias") e) (name_of e) (option_map_or name_inside proto None) (λ o. IfSome o (IsShortName (element_size e))) (λ _. name_of-short e)
    (λ _. inner-name proto (element_size e) (IfSome_then proto (child-within (codes "proto") e) (λ part within. omega (arith, within))) None tt)

extends-few : (e : Element) → length (option_map_or parts_of (value_of (codes "structextends") e) []) ≤ element_size e
extends-few e =
    or_empty-short parts_of (value_of (codes "structextends") e) (element_size e)
    (IfSome_then (value_of (codes "structextends") e) (value-within (codes "structextends") e) (λ value within. omega (arith, within, parts-few value)))

-- what only something says that is no alias
unless-short : {A : Type 0} (alias : Bool) (xs : List A) (most : ℕ) → length xs ≤ most → length (cond alias [] xs) ≤ most
unless-short true xs most short = omega arith
unless-short false xs most short = short

module _ (api : List ℕ) (kind : Kind) (e : Element) where
  unless-small : (alias : Bool) → All (IsSmallMember (element_size e)) (cond alias [] (map member_of (sound_members api kind e)))
  unless-small true = All-nil (IsSmallMember (element_size e))
  unless-small false = members-small api kind e

  pub type_row-small : (name : List ℕ) → IsShortName (element_size e) name → IsSmallDeclaration (element_size e) (type_row api kind e name)
  type_row-small name short = record {
    named = short.0;
    name = short.1;
    text = unless-short (has (codes "alias") e) (trim (text_of e)) (element_size e) (omega (arith, trim-short (text_of e), text-short e.content));
    result = unless-short (has (codes "alias") e) (result_of kind e) (element_size e) (result-short kind e);
    extends = extends-few e;
    members = unless-short (has (codes "alias") e) (map member_of (sound_members api kind e)) (element_size e) (members-few api kind e);
    each_member = unless-small (has (codes "alias") e);
    mentions = type-few api kind e;
  }

command_row-small : (api : List ℕ) (e : Element) (name : List ℕ) → IsShortName (element_size e) name → IsSmallDeclaration (element_size e) (command_row api e name)
command_row-small api e name short = record {
  named = short.0;
  name = short.1;
  text = omega arith;
  result = unless-short (has (codes "alias") e) (result_of kind.Command e) (element_size e) (result-short kind.Command e);
  extends = omega arith;
  members = unless-short (has (codes "alias") e) (map member_of (sound_members api kind.Command e)) (element_size e) (members-few api kind.Command e);
  each_member = unless-small api kind.Command e (has (codes "alias") e);
  mentions = command-few api e;
}

-- a mention, since what counts declarations counts none
any : Mention
any = record { place = 0; name = []; sort = sort.Type }

module _ (options blocks : ℕ) where
  pub fits-declares : (n : ℕ) (declaration : Declaration) → 0 < n → IsSmallDeclaration n declaration → Fits n options blocks (Item.declares declaration ∷ [])
  fits-declares n declaration some small = record {
    few = λ count is. omega (arith, some, is.declares declaration any, sum_by-cons count (Item.declares declaration) []);
    small = All-cons (IsSmallItem n) (Item.declares declaration) [] small (All-nil (IsSmallItem n));
    ordered = tt;
  }

  fits-declared : (n : ℕ) (row : List ℕ → Declaration) (mentions : List Mention) (name : Option (List ℕ)) → 0 < n → IfSome name (λ own. IsSmallDeclaration n (row own)) → Fits n options blocks (declared row mentions name)
  fits-declared n row mentions None some small = fits-mentions options blocks n mentions
  fits-declared n row mentions (Some name) some small = fits-declares n (row name) some small

  lacks-fit : (parts : List Element) → Fits 0 options blocks (lacks parts)
  lacks-fit [] = fits-none options blocks 0
  lacks-fit (part ∷ parts) =
      fits-append options blocks 0 0 0 (map (bad_at part) (part_words part)) (lacks parts) (omega arith) (fits-bad options blocks 0 part (part_words part)) (lacks-fit parts)

  -- a list that is there or not
  pub fits-if : (n : ℕ) (test : Bool) (items : List Item) → Fits n options blocks items → Fits n options blocks (cond test items [])
  fits-if n true items fits = fits
  fits-if n false items fits = fits-none options blocks n

  fits-unless_alias : (n : ℕ) (test : Bool) (items : List Item) → Fits n options blocks items → Fits n options blocks (cond test [] items)
  fits-unless_alias n true items fits = fits-none options blocks n
  fits-unless_alias n false items fits = fits

  repeated-fit : (seen : List (List ℕ)) (members : List MemberForm) → Fits 0 options blocks (repeated seen members)
  repeated-fit seen [] = fits-none options blocks 0
  repeated-fit seen (member ∷ more) =
      let fault : Item = Item.wrong (record { code = DuplicateName; at = member.place; word = member.name }) in
      fits-append options blocks 0 0 0 (cond (is_among seen member.name) (fault ∷ []) []) (repeated (member.name ∷ seen) more) (omega arith)
      (fits-if 0 (is_among seen member.name) (fault ∷ []) (fits-wrong options blocks 0 _))
      (repeated-fit (member.name ∷ seen) more)

  faults-fit : (api : List ℕ) (kind : Kind) (e : Element) → Fits 0 options blocks (part_faults api kind e)
  faults-fit api kind e =
      let proto : List Item = lacks (option_to_list (proto_in kind e)) in
      let members : List Item = lacks (members_in api kind e) in
      let twice : List Item = repeated [] (map member_of (sound_members api kind e)) in
      fits-append options blocks 0 0 0 (proto ++ members) twice (omega arith)
      (fits-append options blocks 0 0 0 proto members (omega arith) (lacks-fit (option_to_list (proto_in kind e))) (lacks-fit (members_in api kind e)))
      (repeated-fit [] (map member_of (sound_members api kind e)))

  -- what is wrong with the parts, and then what is declared
  declared-fits : (api : List ℕ) (kind : Kind) (e : Element) (alias : Bool) (row : List ℕ → Declaration) (mentions : List Mention) (name : Option (List ℕ)) → IfSome name (IsShortName (element_size e)) → ((own : List ℕ) → IsShortName (element_size e) own → IsSmallDeclaration (element_size e) (row own)) → Fits (element_size e) options blocks (cond alias [] (part_faults api kind e) ++ declared row mentions name)
  declared-fits api kind e alias row mentions name short small =
      fits-append options blocks 0 (element_size e) (element_size e) (cond alias [] (part_faults api kind e)) (declared row mentions name) (omega arith)
      (fits-unless_alias 0 alias (part_faults api kind e) (faults-fit api kind e))
      (fits-declared (element_size e) row mentions name (omega arith) (IfSome_then name short small))

  known-fits : (api : List ℕ) (e : Element) (known : Option Kind) → Fits (element_size e) options blocks (option_map_or (kind_items api e) known [])
  known-fits api e None = fits-none options blocks (element_size e)
  known-fits api e (Some kind) =
      declared-fits api kind e (has (codes "alias") e) (type_row api kind e) (type_mentions api kind e) (type_name kind e) (type_name-short kind e) (type_row-small api kind e)

  pub type-fits : (api : List ℕ) (e : Element) → Fits (element_size e) options blocks (type_items api e)
  type-fits api e =
      fits-if (element_size e) (counts api e) _
      (fits-unless options blocks (element_size e) e (type_words e) (option_map_or (kind_items api e) (kind_of e) []) (λ _. known-fits api e (kind_of e)))

  pub command-fits : (api : List ℕ) (e : Element) → Fits (element_size e) options blocks (command_items api e)
  command-fits api e =
      fits-if (element_size e) (counts api e) _
      (fits-unless options blocks (element_size e) e (command_words e) _
      (λ _. declared-fits api kind.Command e (has (codes "alias") e) (command_row api e) (command_mentions api e) (command_name e) (command_name-short e) (command_row-small api e)))
