-- The types that elements declare, among all that they say.
use Rattle.std.proofs.Common.{◌≡◌, ℕ, List, [], ◌∷◌, ◌++◌, Bool, true, false, Some, None, codes, cond, map, refl, ap, ◌∙◌}
use Rattle.std.specs.List.{filter_map, flat_map}
use Rattle.std.specs.Option.{option_to_list}
use Rattle.std.proofs.lemmas.List.Elements.{filter_map-append}
use Rattle.reg_registry.specs.declared.kinds.Kind.{Kind}
use Rattle.reg_reader.specs.Views.{Element}
use Rattle.reg_forms.specs.declared.forms.Declaration.{Declaration}
use Rattle.reg_forms.specs.declared.forms.Fault.{Fault}
use Rattle.reg_forms.specs.declared.forms.MemberForm.{MemberForm}
use Rattle.reg_forms.specs.declared.forms.Mention.{Mention}
use Rattle.reg_forms.specs.declared.forms.RowCode.TheVariants.{DuplicateName}
use Rattle.reg_forms.specs.Attributes.{counts, has}
use Rattle.reg_forms.specs.Declarations.{declaration_in, is_named_within, kind_of, type_mentions, type_name, type_row}
use Rattle.reg_forms.specs.EnumTypes.{rows_of}
use Rattle.reg_forms.specs.Items.{Item, bad_at}
use Rattle.reg_forms.specs.Parts.{is_among, member_of, members_in, part_faults, part_words, proto_in, repeated, sound_members}
use Rattle.reg_forms.proofs.DeclarationLemmas.{type_items-bad, type_items-named, type_items-within}

abbrev rows : List Item → List Declaration
rows items = filter_map declaration_in items

-- neither part has a row
rows-both : (xs ys : List Item) → rows xs ≡ [] → rows ys ≡ [] → rows (xs ++ ys) ≡ []
rows-both xs ys e f = filter_map-append declaration_in xs ys ∙ ap (λ r. r ++ rows ys) e ∙ f

rows-bad : (e : Element) (words : List (List ℕ)) → rows (map (bad_at e) words) ≡ []
rows-bad e [] = refl
rows-bad e (word ∷ words) = rows-bad e words

rows-mentions : (mentions : List Mention) → rows (map Item.mentions mentions) ≡ []
rows-mentions [] = refl
rows-mentions (mention ∷ mentions) = rows-mentions mentions

rows-parts : (parts : List Element) → rows (flat_map (λ part. map (bad_at part) (part_words part)) parts) ≡ []
rows-parts [] = refl
rows-parts (part ∷ parts) = rows-both (map (bad_at part) (part_words part)) (flat_map (λ p. map (bad_at p) (part_words p)) parts) (rows-bad part (part_words part)) (rows-parts parts)

rows-wrong : (test : Bool) (fault : Fault) → rows (cond test (Item.wrong fault ∷ []) []) ≡ []
rows-wrong true fault = refl
rows-wrong false fault = refl

rows-repeated : (seen : List (List ℕ)) (members : List MemberForm) → rows (repeated seen members) ≡ []
rows-repeated seen [] = refl
rows-repeated seen (member ∷ more) =
    let fault : Fault = record { code = DuplicateName; at = member.place; word = member.name } in
    rows-both (cond (is_among seen member.name) (Item.wrong fault ∷ []) []) (repeated (member.name ∷ seen) more) (rows-wrong (is_among seen member.name) fault) (rows-repeated (member.name ∷ seen) more)

rows-faults : (api : List ℕ) (kind : Kind) (e : Element) → rows (part_faults api kind e) ≡ []
rows-faults api kind e =
    rows-both (flat_map (λ proto. map (bad_at proto) (part_words proto)) (option_to_list (proto_in kind e)) ++ flat_map (λ member. map (bad_at member) (part_words member)) (members_in api kind e)) (repeated [] (map member_of (sound_members api kind e)))
    (rows-both (flat_map (λ proto. map (bad_at proto) (part_words proto)) (option_to_list (proto_in kind e))) (flat_map (λ member. map (bad_at member) (part_words member)) (members_in api kind e)) (rows-parts (option_to_list (proto_in kind e))) (rows-parts (members_in api kind e)))
    (rows-repeated [] (map member_of (sound_members api kind e)))

rows-unless : (alias : Bool) (api : List ℕ) (kind : Kind) (e : Element) → rows (cond alias [] (part_faults api kind e)) ≡ []
rows-unless true api kind e = refl
rows-unless false api kind e = rows-faults api kind e

module _ (api : List ℕ) (e : Element) (counted : counts api e ≡ true) (kind : Kind) (known : kind_of e ≡ Some kind) where
  pub rows_of-named : (name : List ℕ) → type_name kind e ≡ Some name → rows_of api e ≡ type_row api kind e name ∷ []
  rows_of-named name named =
      ap rows (type_items-named api e counted kind known name named)
      ∙ filter_map-append declaration_in (cond (has (codes "alias") e) [] (part_faults api kind e)) (Item.declares (type_row api kind e name) ∷ [])
      ∙ ap (λ r. r ++ type_row api kind e name ∷ []) (rows-unless (has (codes "alias") e) api kind e)

  rows_of-unnamed : type_name kind e ≡ None → (within : Bool) → is_named_within kind e ≡ within → rows_of api e ≡ []
  rows_of-unnamed nameless false outside = ap rows (type_items-bad api e counted kind known nameless outside)
  rows_of-unnamed nameless true within =
      ap rows (type_items-within api e counted kind known nameless within)
      ∙ rows-both (cond (has (codes "alias") e) [] (part_faults api kind e)) (map Item.mentions (type_mentions api kind e)) (rows-unless (has (codes "alias") e) api kind e) (rows-mentions (type_mentions api kind e))

  pub rows_of-nameless : type_name kind e ≡ None → rows_of api e ≡ []
  rows_of-nameless nameless = rows_of-unnamed nameless (is_named_within kind e) refl
