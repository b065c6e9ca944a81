-- What members and parameters say, over a list of them.
use Rattle.std.proofs.Common.{◌≡◌, ℕ, Bool, true, false, List, [], ◌∷◌, ◌++◌, Option, filter, map, sym, ap, ◌∙◌}
use Rattle.std.specs.List.{flat_map}
use Rattle.std.specs.Option.{option_to_list}
use Rattle.std.proofs.lemmas.Bool.{cond-true, cond-false}
use Rattle.std.proofs.lemmas.Grind.{flat_map-append}
use Rattle.std.proofs.lemmas.List.{append_assoc, map-append}
use Rattle.std.proofs.lemmas.List.Elements.{filter-append}
use Rattle.reg_registry.specs.declared.kinds.Kind.{Kind}
use Rattle.reg_reader.specs.Views.{Element}
use Rattle.reg_forms.specs.declared.forms.Forms.{Forms}
use Rattle.reg_forms.specs.declared.forms.MemberForm.{MemberForm}
use Rattle.reg_forms.specs.declared.forms.Mention.{Mention}
use Rattle.reg_forms.specs.Attributes.{counts}
use Rattle.reg_forms.specs.Forms.{with_items}
use Rattle.reg_forms.specs.Items.{Item}
use Rattle.reg_forms.specs.Parts.{is_sound, lacks, member_mentions, member_of, members_in, part_faults, proto_in, repeated, sound_members}
use Rattle.reg_forms.proofs.ItemLemmas.{put_step, with_both}

-- what is wrong with those that count, what they are, and what they mention
abbrev pub faults_among : List ℕ → List Element → List Item
faults_among api es = lacks (filter (counts api) es)

abbrev pub forms_among : List ℕ → List Element → List MemberForm
forms_among api es = map member_of (filter is_sound (filter (counts api) es))

abbrev pub mentions_among : List ℕ → List Element → List Mention
mentions_among api es = flat_map member_mentions (filter is_sound (filter (counts api) es))

-- What is said of a list is what is said of its first element, and then of the rest.
abbrev Joins : {A : Type 0} → (List Element → List A) → Type 0
Joins {A} say = (xs ys : List Element) → say (xs ++ ys) ≡ say xs ++ say ys

faults-join : (api : List ℕ) → Joins (faults_among api)
faults-join api xs ys = ap (flat_map _) (filter-append (counts api) xs ys) ∙ flat_map-append _ (filter (counts api) xs) (filter (counts api) ys)

forms-join : (api : List ℕ) → Joins (forms_among api)
forms-join api xs ys =
    ap (λ es. map member_of (filter is_sound es)) (filter-append (counts api) xs ys)
    ∙ ap (map member_of) (filter-append is_sound (filter (counts api) xs) (filter (counts api) ys))
    ∙ map-append member_of (filter is_sound (filter (counts api) xs)) (filter is_sound (filter (counts api) ys))

mentions-join : (api : List ℕ) → Joins (mentions_among api)
mentions-join api xs ys =
    ap (λ es. flat_map member_mentions (filter is_sound es)) (filter-append (counts api) xs ys)
    ∙ ap (flat_map member_mentions) (filter-append is_sound (filter (counts api) xs) (filter (counts api) ys))
    ∙ flat_map-append member_mentions (filter is_sound (filter (counts api) xs)) (filter is_sound (filter (counts api) ys))

module _ {A : Type 0} (say : List Element → List A) (joins : Joins say) (test : Element → Bool) (e : Element) (old ahead : List Element) (first : old ≡ e ∷ ahead) where
  said_counted : test e ≡ true → say (filter test old) ≡ say (e ∷ []) ++ say (filter test ahead)
  said_counted is_so =
      ap (λ es. say (filter test es)) first ∙ ap say (cond-true (test e) (e ∷ filter test ahead) (filter test ahead) is_so)
      ∙ joins (e ∷ []) (filter test ahead)

  said_passed : test e ≡ false → say (filter test old) ≡ say (filter test ahead)
  said_passed not_so = ap (λ es. say (filter test es)) first ∙ ap say (cond-false (test e) (e ∷ filter test ahead) (filter test ahead) not_so)

  pub list_counted : (before now whole : List A) → test e ≡ true → now ≡ before ++ say (e ∷ []) → before ++ say (filter test old) ≡ whole → now ++ say (filter test ahead) ≡ whole
  list_counted before now whole is_so put so_far =
      ap (λ xs. xs ++ say (filter test ahead)) put ∙ append_assoc before (say (e ∷ [])) (say (filter test ahead))
      ∙ ap (λ xs. before ++ xs) (sym (said_counted is_so))
      ∙ so_far

  pub list_passed : (before whole : List A) → test e ≡ false → before ++ say (filter test old) ≡ whole → before ++ say (filter test ahead) ≡ whole
  list_passed before whole not_so so_far = ap (λ xs. before ++ xs) (sym (said_passed not_so)) ∙ so_far

module _ (say : List Element → List Item) (joins : Joins say) (test : Element → Bool) (e : Element) (old ahead : List Element) (first : old ≡ e ∷ ahead) where
  pub items_counted : (before now whole : Forms) → test e ≡ true → now ≡ with_items before (say (e ∷ [])) → with_items before (say (filter test old)) ≡ whole → with_items now (say (filter test ahead)) ≡ whole
  items_counted before now whole is_so put so_far =
      put_step before now whole (say (e ∷ [])) (say (filter test ahead)) (say (filter test old)) (said_counted say joins test e old ahead first is_so) put so_far

  pub items_passed : (before whole : Forms) → test e ≡ false → with_items before (say (filter test old)) ≡ whole → with_items before (say (filter test ahead)) ≡ whole
  items_passed before whole not_so so_far = ap (with_items before) (sym (said_passed say joins test e old ahead first not_so)) ∙ so_far

-- what is wrong with a prototype, then with each member by itself, and then with the members together
pub parts-faults : (api : List ℕ) (kind : Kind) (e : Element) (old first second now : Forms) (proto : Option Element) (members : List MemberForm) → proto ≡ proto_in kind e → first ≡ with_items old (lacks (option_to_list proto)) → second ≡ with_items first (lacks (members_in api kind e)) → members ≡ map member_of (sound_members api kind e) → now ≡ with_items second (repeated [] members) → now ≡ with_items old (part_faults api kind e)
parts-faults api kind e old first second now proto members own put_proto put_members are put_repeated =
    with_both old second now (lacks (option_to_list (proto_in kind e)) ++ lacks (members_in api kind e)) (repeated [] (map member_of (sound_members api kind e)))
    (with_both old first second (lacks (option_to_list (proto_in kind e))) (lacks (members_in api kind e))
    (put_proto ∙ ap (λ p. with_items old (lacks (option_to_list p))) own)
    put_members)
    (put_repeated ∙ ap (λ ms. with_items second (repeated [] ms)) are)
