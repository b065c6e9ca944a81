-- What an element mentions is less than its size: the element counts, too.
use Rattle.std.proofs.Common.{◌≡◌, ℕ, suc, ◌+◌, ◌*◌, ◌<◌, ◌≤◌, ◌⊎◌, inl, inr, Bool, List, [], ◌∷◌, ◌++◌, length, filter, map, Option, Some, None, ap, arith, length-append}
use Rattle.std.specs.Prelude.{IfSome, codes, is_some, option_map}
use Rattle.std.specs.List.{find, flat_map}
use Rattle.std.specs.Option.{option_to_list}
use Rattle.std.proofs.lemmas.Bool.{cond_both}
use Rattle.std.proofs.lemmas.List.{length-map}
use Rattle.std.proofs.lemmas.Slice.Eq.{bytes_eq-Decides}
use Rattle.reg_registry.specs.declared.kinds.Kind.{Kind}
use Rattle.reg_registry.specs.declared.kinds.Kind.TheVariants as kind
use Rattle.reg_reader.specs.Views.{Content, Element, content_size, element_size, elements_in}
use Rattle.reg_forms.specs.declared.forms.Mention.{Mention}
use Rattle.reg_forms.specs.declared.forms.Sort.{Sort}
use Rattle.reg_forms.specs.declared.forms.Sort.TheVariants as sort
use Rattle.reg_forms.specs.Attributes.{child, children, counts, has, is_named, value_of}
use Rattle.reg_forms.specs.Declarations.{command_mentions, type_mentions}
use Rattle.reg_forms.specs.Parts.{inner_mentions, is_sound, member_mentions, mention_in, mention_of, type_mention}
use Rattle.reg_forms.proofs.MemberSizeLemmas.{elements-within}
use Rattle.reg_forms.proofs.TextSizeLemmas.{attributes_size, filter-few, value-within}

-- what is said of a thing that may be there, each time at that cost
said-few : {A : Type 0} (say : List ℕ → A) (cost size : ℕ) (o : Option (List ℕ)) → IfSome o (λ value. cost + length value ≤ size) → cost * length (option_to_list (option_map say o)) ≤ size
said-few say cost size None within = omega arith
said-few say cost size (Some value) within = omega (arith, within)

mention_in-few : (attribute : List ℕ) (kind : Sort) (e : Element) → length attribute * length (mention_in attribute kind e) ≤ attributes_size e
mention_in-few attribute kind e =
    said-few (λ name. record { place = e.place; name = name; sort = kind }) (length attribute) (attributes_size e) (value_of attribute e) (value-within attribute e)

one-few : {A B : Type 0} (say : A → B) (o : Option A) → length (option_to_list (option_map say o)) ≤ 1
one-few say None = omega arith
one-few say (Some x) = omega arith

type_mention-few : (e : Element) → length (type_mention e) ≤ 1
type_mention-few e = one-few (mention_of sort.Type) (child (codes "type") e)

member_mentions-few : (e : Element) → length (member_mentions e) ≤ 1 + content_size e.content
member_mentions-few e =
    omega (
      arith,
      length-append (type_mention e) (map (mention_of sort.Constant) (children (codes "enum") e)),
      type_mention-few e,
      length-map (children (codes "enum") e) (mention_of sort.Constant),
      filter-few (is_named (codes "enum")) (elements_in e.content),
      (elements-within e.content).0,
    )

-- what a list says of which some pass a test, with one more in front
front-few : {A : Type 0} (say : Element → List A) (test : Element → Bool) (e : Element) (es : List Element) → length (flat_map say (filter test (e ∷ es))) ≤ length (say e) + length (flat_map say (filter test es))
front-few say test e es =
    cond_both (test e) (e ∷ filter test es) (filter test es) (λ kept. length (flat_map say kept) ≤ length (say e) + length (flat_map say (filter test es)))
    (λ _. omega (arith, length-append (say e) (flat_map say (filter test es))))
    (λ _. omega arith)

-- what these mention, where they count
abbrev mentioned : List ℕ → List Element → List Mention
mentioned api es = flat_map member_mentions (filter is_sound (filter (counts api) es))

module _ (api name : List ℕ) (long : 2 ≤ length name) where
  mentioned-front : (e : Element) (es : List Element) → length (mentioned api (e ∷ es)) ≤ length (member_mentions e) + length (mentioned api es)
  mentioned-front e es =
      cond_both (counts api e) (e ∷ filter (counts api) es) (filter (counts api) es) (λ kept. length (flat_map member_mentions (filter is_sound kept)) ≤ length (member_mentions e) + length (mentioned api es))
      (λ _. front-few member_mentions is_sound e (filter (counts api) es))
      (λ _. omega arith)

  named-step : (e : Element) (es : List Element) → (length (mentioned api (filter (is_named name) (e ∷ es))) ≤ length (mentioned api (filter (is_named name) es))) ⊎ ((2 ≤ length e.name) × (length (mentioned api (filter (is_named name) (e ∷ es))) ≤ 1 + content_size e.content + length (mentioned api (filter (is_named name) es))))
  named-step e es =
      cond_both (is_named name e) (e ∷ filter (is_named name) es) (filter (is_named name) es) (λ kept. (length (mentioned api kept) ≤ length (mentioned api (filter (is_named name) es))) ⊎ ((2 ≤ length e.name) × (length (mentioned api kept) ≤ 1 + content_size e.content + length (mentioned api (filter (is_named name) es)))))
      (λ is_so. let same : length name ≡ length e.name = ap length ((bytes_eq-Decides name e.name).0 is_so) in
      inr (omega (arith, same, long), omega (arith, mentioned-front e (filter (is_named name) es), member_mentions-few e)))
      (λ _. inl (omega arith))

types-step : (e : Element) (es : List Element) → (length (filter (is_named (codes "type")) (e ∷ es)) ≤ length (filter (is_named (codes "type")) es)) ⊎ ((2 ≤ length e.name) × (length (filter (is_named (codes "type")) (e ∷ es)) ≤ 1 + length (filter (is_named (codes "type")) es)))
types-step e es =
    cond_both (is_named (codes "type") e) (e ∷ filter (is_named (codes "type")) es) (filter (is_named (codes "type")) es) (λ kept. (length kept ≤ length (filter (is_named (codes "type")) es)) ⊎ ((2 ≤ length e.name) × (length kept ≤ 1 + length (filter (is_named (codes "type")) es))))
    (λ is_so. let same : 4 ≡ length e.name = ap length ((bytes_eq-Decides (codes "type") e.name).0 is_so) in
    inr (omega (arith, same), omega arith))
    (λ _. inl (omega arith))

-- types, what those of another name mention, and one for each element
among-few : (api name : List ℕ) → 2 ≤ length name → (c : Content) → length (filter (is_named (codes "type")) (elements_in c)) + length (mentioned api (filter (is_named name) (elements_in c))) + length (elements_in c) ≤ content_size c
among-few api name long Content.none = omega arith
among-few api name long (Content.chars text after) = omega (arith, among-few api name long after)
among-few api name long (Content.child place own attributes inner after) =
    let e : Element = record { place = place; name = own; attributes = attributes; content = inner } in
    omega (arith, among-few api name long after, types-step e (elements_in after), named-step api name long e (elements_in after))

found-few : (test : Element → Bool) (es : List Element) → length (option_to_list (find test es)) ≤ length es
found-few test [] = omega arith
found-few test (e ∷ es) =
    cond_both (test e) (Some e) (find test es) (λ o. length (option_to_list o) ≤ suc (length es)) (λ _. omega arith) (λ _. omega (arith, found-few test es))

proto-few : (o : Option Element) → length (flat_map type_mention (filter is_sound (option_to_list o))) ≤ length (option_to_list o)
proto-few None = omega arith
proto-few (Some proto) = omega (arith, front-few type_mention is_sound proto [], type_mention-few proto)

-- the types in an element, and what its parts mention
inner-few : (api : List ℕ) (kind : Kind) (e : Element) → length (children (codes "type") e) + length (inner_mentions api kind e) ≤ content_size e.content
inner-few api kind.Struct e = omega (arith, among-few api (codes "member") (omega arith) e.content)
inner-few api kind.Union e = omega (arith, among-few api (codes "member") (omega arith) e.content)
inner-few api kind.Command e =
    let proto : Option Element = child (codes "proto") e in
    omega (
      arith,
      among-few api (codes "param") (omega arith) e.content,
      proto-few proto,
      found-few (is_named (codes "proto")) (elements_in e.content),
      length-append (flat_map type_mention (filter is_sound (option_to_list proto))) (mentioned api (children (codes "param") e)),
    )
inner-few api kind.FuncPointer e =
    let proto : Option Element = child (codes "proto") e in
    cond_both (is_some proto) (filter (counts api) (children (codes "param") e)) [] (λ members. length (children (codes "type") e) + length (flat_map type_mention (filter is_sound (option_to_list proto)) ++ flat_map member_mentions (filter is_sound members)) ≤ content_size e.content)
    (λ _. omega (
      arith,
      among-few api (codes "param") (omega arith) e.content,
      proto-few proto,
      found-few (is_named (codes "proto")) (elements_in e.content),
      length-append (flat_map type_mention (filter is_sound (option_to_list proto))) (mentioned api (children (codes "param") e)),
    ))
    (λ _. omega (
      arith,
      among-few api (codes "param") (omega arith) e.content,
      proto-few proto,
      found-few (is_named (codes "proto")) (elements_in e.content),
      length-append (flat_map type_mention (filter is_sound (option_to_list proto))) [],
    ))
inner-few api _ e = omega (arith, among-few api (codes "member") (omega arith) e.content)

pub alias-few : (kind : Sort) (e : Element) → length (mention_in (codes "alias") kind e) < element_size e
alias-few kind e = omega (arith, mention_in-few (codes "alias") kind e)

pub command-few : (api : List ℕ) (e : Element) → length (command_mentions api e) < element_size e
command-few api e =
    cond_both (has (codes "alias") e) (mention_in (codes "alias") sort.Command e) (inner_mentions api kind.Command e) (λ mentions. length mentions < element_size e) (λ _. alias-few sort.Command e)
    (λ _. omega (arith, inner-few api kind.Command e))

pub type-few : (api : List ℕ) (kind : Kind) (e : Element) → length (type_mentions api kind e) < element_size e
type-few api kind e =
    let alias : List Mention = mention_in (codes "alias") sort.Type e in
    let requires : List Mention = mention_in (codes "requires") sort.Type e in
    let bits : List Mention = mention_in (codes "bitvalues") sort.Type e in
    let types : List Mention = map (mention_of sort.Type) (children (codes "type") e) in
    let front : (inner : List Mention) → length inner ≤ content_size e.content → length (alias ++ requires ++ bits ++ inner) < element_size e =
    λ inner few. omega (
      arith,
      few,
      length-append (alias ++ requires ++ bits) inner,
      length-append (alias ++ requires) bits,
      length-append alias requires,
      mention_in-few (codes "alias") sort.Type e,
      mention_in-few (codes "requires") sort.Type e,
      mention_in-few (codes "bitvalues") sort.Type e,
    ) in
    cond_both (has (codes "alias") e) [] (types ++ inner_mentions api kind e) (λ inner. length (alias ++ requires ++ bits ++ inner) < element_size e) (λ _. front [] (omega arith))
    (λ _. front (types ++ inner_mentions api kind e) (omega (arith, length-append types (inner_mentions api kind e), length-map (children (codes "type") e) (mention_of sort.Type), inner-few api kind e)))
