-- No text that an element says is longer than the element.
use Rattle.std.proofs.Common.{◌≡◌, ℕ, suc, ◌+◌, ◌-◌, ◌<◌, ◌≤◌, ◌==◌, Bool, true, List, [], ◌∷◌, ◌++◌, length, filter, Option, Some, None, refl, ap, arith, length-append, length-drop}
use Rattle.std.specs.Prelude.{IfSome, codes, option_map, sum_by}
use Rattle.std.specs.List.{find, prefix_len, suffix_len}
use Rattle.std.specs.Option.{option_map_or}
use Rattle.std.specs.Str.{bytes_eq}
use Rattle.std.proofs.lemmas.Bool.{cond_both}
use Rattle.std.proofs.lemmas.List.{length-take}
use Rattle.std.proofs.lemmas.List.Sums.{count_by-le-length, length-filter, sum_by-cons}
use Rattle.std.proofs.lemmas.Option.{IfSome_then}
use Rattle.std.proofs.lemmas.Slice.Eq.{bytes_eq-Decides}
use Rattle.vkb_bytes.specs.Bytes.{is_white}
use Rattle.vkb_bytes.specs.Trimming.{begins_white, collapse, spaced, trim, trim_start}
use Rattle.reg_registry.specs.Words.{is_name}
use Rattle.reg_reader.specs.Views.{Content, Element, attribute_size, content_size, element_size, elements_in, text_before, text_in, value_in}
use Rattle.reg_forms.specs.Attributes.{child, first_part, is_named, name_in, name_of, parts_of, text_of, value_of, value_or_empty, with_byte}
use Rattle.reg_forms.specs.Parts.{name_inside, text_inside}

pub filter-few : {A : Type 0} (test : A → Bool) (xs : List A) → length (filter test xs) ≤ length xs
filter-few test xs = omega (arith, length-filter test xs, count_by-le-length test xs)

spaced-short : (text : List ℕ) → length (spaced text) ≤ length text
spaced-short [] = omega arith
spaced-short (b ∷ rest) =
    cond_both (is_white b) _ (b ∷ spaced rest) (λ t. length t ≤ suc (length rest))
    (λ _. cond_both (begins_white rest) (spaced rest) (32 ∷ spaced rest) (λ t. length t ≤ suc (length rest)) (λ _. omega (arith, spaced-short rest)) (λ _. omega (arith, spaced-short rest)))
    (λ _. omega (arith, spaced-short rest))

pub trim-short : (text : List ℕ) → length (trim text) ≤ length text
trim-short text =
    omega (arith, length-take (length (trim_start text) - suffix_len is_white (trim_start text)) (trim_start text), length-drop (prefix_len is_white text) text)

pub collapse-short : (text : List ℕ) → length (collapse text) ≤ length text
collapse-short text = omega (arith, trim-short (spaced text), spaced-short text)

pub first_part-short : (text : List ℕ) → length (first_part text) ≤ length text
first_part-short [] = omega arith
first_part-short (byte ∷ rest) =
    cond_both (byte == 44) [] (byte ∷ first_part rest) (λ t. length t ≤ suc (length rest)) (λ _. omega arith) (λ _. omega (arith, first_part-short rest))

with_byte-few : (byte : ℕ) (parts : List (List ℕ)) → length (with_byte byte parts) ≤ suc (length parts)
with_byte-few byte [] = omega arith
with_byte-few byte (part ∷ parts) = omega arith

with_byte-some : (byte : ℕ) (parts : List (List ℕ)) → 0 < length parts → length (with_byte byte parts) ≡ length parts
with_byte-some byte [] some = absurd (omega (arith, some))
with_byte-some byte (part ∷ parts) some = refl

parts-some : (text : List ℕ) → 0 < length (parts_of text)
parts-some [] = omega arith
parts-some (byte ∷ rest) =
    cond_both (byte == 44) ([] ∷ parts_of rest) (with_byte byte (parts_of rest)) (λ parts. 0 < length parts) (λ _. omega arith)
    (λ _. omega (arith, parts-some rest, with_byte-some byte (parts_of rest) (parts-some rest)))

-- a text has one part more than commas
pub parts-few : (text : List ℕ) → length (parts_of text) ≤ suc (length text)
parts-few [] = omega arith
parts-few (byte ∷ rest) =
    cond_both (byte == 44) ([] ∷ parts_of rest) (with_byte byte (parts_of rest)) (λ parts. length parts ≤ suc (suc (length rest))) (λ _. omega (arith, parts-few rest))
    (λ _. omega (arith, parts-few rest, with_byte-few byte (parts_of rest)))

pub text-short : (c : Content) → length (text_in c) ≤ content_size c
text-short Content.none = omega arith
text-short (Content.chars text after) = omega (arith, text-short after, length-append text (text_in after))
text-short (Content.child place name attributes inner after) =
    cond_both (bytes_eq name (codes "comment")) [] (text_in inner) (λ t. length (t ++ text_in after) ≤ content_size (Content.child place name attributes inner after))
    (λ _. omega (arith, text-short after))
    (λ _. omega (arith, text-short inner, text-short after, length-append (text_in inner) (text_in after)))

pub before-short : (until : List ℕ) (c : Content) → length (text_before until c) ≤ content_size c
before-short until Content.none = omega arith
before-short until (Content.chars text after) = omega (arith, before-short until after, length-append text (text_before until after))
before-short until (Content.child place name attributes inner after) =
    cond_both (bytes_eq name until) [] _ (λ t. length t ≤ content_size (Content.child place name attributes inner after)) (λ _. omega arith)
    (λ _. cond_both (bytes_eq name (codes "comment")) [] (text_in inner) (λ t. length (t ++ text_before until after) ≤ content_size (Content.child place name attributes inner after))
    (λ _. omega (arith, before-short until after))
    (λ _. omega (arith, text-short inner, before-short until after, length-append (text_in inner) (text_before until after))))

-- an attribute that is there counts with its name
attribute-within : (attributes : List (List ℕ × List ℕ)) (name : List ℕ) → IfSome (value_in attributes name) (λ value. length name + length value ≤ sum_by attribute_size attributes)
attribute-within [] name = tt
attribute-within (attribute ∷ more) name =
    cond_both (bytes_eq attribute.0 name) (Some attribute.1) (value_in more name) (λ o. IfSome o (λ value. length name + length value ≤ sum_by attribute_size (attribute ∷ more)))
    (λ same. let named : length attribute.0 ≡ length name = ap length ((bytes_eq-Decides attribute.0 name).0 same) in
    omega (arith, named, sum_by-cons attribute_size attribute more))
    (λ _. IfSome_then (value_in more name) (attribute-within more name) (λ value within. omega (arith, within, sum_by-cons attribute_size attribute more)))

-- the sizes of an element but for its name: of its attributes, and of what stands in it
abbrev pub attributes_size : Element → ℕ
attributes_size e = sum_by attribute_size e.attributes

pub value-within : (name : List ℕ) (e : Element) → IfSome (value_of name e) (λ value. length name + length value ≤ attributes_size e)
value-within name e = attribute-within e.attributes name

pub value-short : (name : List ℕ) (e : Element) → IfSome (value_of name e) (λ value. length value ≤ element_size e)
value-short name e = IfSome_then (value_of name e) (value-within name e) (λ value within. omega (arith, within))

-- what a thing becomes that may be there, or nothing
pub or_empty-short : {A B : Type 0} (say : A → List B) (o : Option A) (most : ℕ) → IfSome o (λ x. length (say x) ≤ most) → length (option_map_or say o []) ≤ most
or_empty-short say None most none = omega arith
or_empty-short say (Some x) most short = short

pub value_or_empty-short : (name : List ℕ) (e : Element) → length (value_or_empty name e) ≤ element_size e
value_or_empty-short name e = or_empty-short (λ value. value) (value_of name e) (element_size e) (value-short name e)

pub first-short : (name : List ℕ) (e : Element) → length (first_part (value_or_empty name e)) ≤ element_size e
first-short name e = omega (arith, first_part-short (value_or_empty name e), value_or_empty-short name e)

-- an element that is found among those of a content
found-within : (c : Content) (test : Element → Bool) → IfSome (find test (elements_in c)) (λ e. element_size e ≤ content_size c)
found-within Content.none test = tt
found-within (Content.chars text after) test = IfSome_then (find test (elements_in after)) (found-within after test) (λ e within. omega (arith, within))
found-within (Content.child place name attributes inner after) test =
    let e : Element = record { place = place; name = name; attributes = attributes; content = inner } in
    cond_both (test e) (Some e) (find test (elements_in after)) (λ o. IfSome o (λ other. element_size other ≤ content_size (Content.child place name attributes inner after)))
    (λ _. omega arith)
    (λ _. IfSome_then (find test (elements_in after)) (found-within after test) (λ other within. omega (arith, within)))

pub child-within : (name : List ℕ) (e : Element) → IfSome (child name e) (λ part. element_size part ≤ content_size e.content)
child-within name e = found-within e.content (is_named name)

pub child-text-short : (name : List ℕ) (e : Element) → IfSome (child name e) (λ part. length (text_of part) ≤ element_size e)
child-text-short name e =
    IfSome_then (child name e) (child-within name e) (λ part within. omega (arith, within, text-short part.content))

pub text_inside-short : (name : List ℕ) (e : Element) → length (text_inside name e) ≤ element_size e
text_inside-short name e = or_empty-short text_of (child name e) (element_size e) (child-text-short name e)

-- it is a name, and no longer than that
abbrev pub IsShortName : ℕ → List ℕ → Type 0
IsShortName most name = (is_name name ≡ true) × (length name ≤ most)

pub name_in-short : (most : ℕ) (o : Option (List ℕ)) → IfSome o (λ text. length text ≤ most) → IfSome (name_in o) (IsShortName most)
name_in-short most None short = tt
name_in-short most (Some text) short = cond_both (is_name text) (Some text) None (λ o. IfSome o (IsShortName most)) (λ is_so. (is_so, short)) (λ _. tt)

mapped-some : {A B : Type 0} (say : A → B) (o : Option A) (P : B → Type 0) → IfSome o (λ x. P (say x)) → IfSome (option_map say o) P
mapped-some say None P none = tt
mapped-some say (Some x) P some = some

pub name_of-short : (e : Element) → IfSome (name_of e) (IsShortName (element_size e))
name_of-short e = name_in-short (element_size e) (value_of (codes "name") e) (value-short (codes "name") e)

pub name_inside-short : (e : Element) → IfSome (name_inside e) (IsShortName (element_size e))
name_inside-short e =
    name_in-short (element_size e) (option_map text_of (child (codes "name") e))
    (mapped-some text_of (child (codes "name") e) (λ text. length text ≤ element_size e) (child-text-short (codes "name") e))
