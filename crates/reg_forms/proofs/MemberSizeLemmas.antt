-- Members, parameters and prototypes, and what they mention, against the size of the element round them.
use Rattle.std.proofs.Common.{◌≡◌, ℕ, ◌≤◌, ◌==◌, Bool, true, false, List, [], ◌∷◌, length, filter, map, Option, Some, None, cond, refl, arith}
use Rattle.std.specs.Prelude.{All, IfSome, codes, is_some, option_map}
use Rattle.std.specs.Option.{option_map_or}
use Rattle.std.proofs.lemmas.Bool.{and_parts, cond_both, false≢true}
use Rattle.std.proofs.lemmas.List.{length-map}
use Rattle.std.proofs.lemmas.List.Elements.{All-cons, All-filter, All-head, All-nil, All-tail, All-weaker}
use Rattle.std.proofs.lemmas.Option.{IfSome_then}
use Rattle.vkb_bytes.specs.Trimming.{collapse}
use Rattle.reg_registry.specs.declared.kinds.Kind.{Kind}
use Rattle.reg_registry.specs.declared.kinds.Kind.TheVariants as kind
use Rattle.reg_registry.specs.Words.{is_name}
use Rattle.reg_reader.specs.Views.{Content, Element, content_size, element_size, elements_in, text_before}
use Rattle.reg_forms.specs.Attributes.{child, children, counts, is_named, name_in, text_of}
use Rattle.reg_forms.specs.Parts.{is_sound, member_of, members_in, proto_in, result_of, sound_members}
use Rattle.reg_forms.specs.Sizes.{IsSmallMember}
use Rattle.reg_forms.proofs.ItemSizeLemmas.{member-more}
use Rattle.reg_forms.proofs.TextSizeLemmas.{child-within, collapse-short, before-short, filter-few, first-short, or_empty-short, text-short, text_inside-short, value_or_empty-short}

passes : (b : Bool) (text : List ℕ) → is_some (cond b (Some text) None) ≡ true → b ≡ true
passes true text some = refl
passes false text some = absurd (false≢true some)

inside-named : (o : Option Element) → is_some (name_in (option_map text_of o)) ≡ true → is_name (option_map_or text_of o []) ≡ true
inside-named None some = absurd (false≢true some)
inside-named (Some part) some = passes (is_name (text_of part)) (text_of part) some

pub member-small : (e : Element) → is_sound e ≡ true → IsSmallMember (element_size e) (member_of e)
member-small e sound = record {
  named = inside-named (child (codes "name") e) (and_parts _ _ sound).0;
  name = text_inside-short (codes "name") e;
  text = omega (arith, collapse-short (text_of e), text-short e.content);
  base = text_inside-short (codes "type") e;
  values = value_or_empty-short (codes "values") e;
  len = first-short (codes "len") e;
  stars = omega (arith, filter-few (λ other. 42 == other) (text_of e), text-short e.content);
}

-- none of these elements is larger than that, and there are no more of them
abbrev pub AreWithin : ℕ → List Element → Type 0
AreWithin most es = (length es ≤ most) × All (λ e. element_size e ≤ most) es

pub elements-within : (c : Content) → AreWithin (content_size c) (elements_in c)
elements-within Content.none = (omega arith, All-nil _)
elements-within (Content.chars text after) =
    let rest = elements-within after in
    let whole = content_size (Content.chars text after) in
    (omega (arith, rest.0), All-weaker (λ e. element_size e ≤ content_size after) (λ e. element_size e ≤ whole) (λ e within. omega (arith, within)) (elements_in after) rest.1)
elements-within (Content.child place name attributes inner after) =
    let rest = elements-within after in
    let whole = content_size (Content.child place name attributes inner after) in
    let e : Element = record { place = place; name = name; attributes = attributes; content = inner } in
    (omega (arith, rest.0), All-cons (λ other. element_size other ≤ whole) e (elements_in after) (omega arith) (All-weaker (λ other. element_size other ≤ content_size after) (λ other. element_size other ≤ whole) (λ other within. omega (arith, within)) (elements_in after) rest.1))

kept-within : (most : ℕ) (test : Element → Bool) (es : List Element) → AreWithin most es → AreWithin most (filter test es)
kept-within most test es within = (omega (arith, within.0, filter-few test es), All-filter test (λ e. element_size e ≤ most) es within.1)

none-within : (most : ℕ) → AreWithin most []
none-within most = (omega arith, All-nil _)

counted-within : (api name : List ℕ) (e : Element) → AreWithin (content_size e.content) (filter (counts api) (children name e))
counted-within api name e =
    kept-within (content_size e.content) (counts api) (children name e)
    (kept-within (content_size e.content) (is_named name) (elements_in e.content) (elements-within e.content))

pub members-within : (api : List ℕ) (kind : Kind) (e : Element) → AreWithin (content_size e.content) (members_in api kind e)
members-within api kind.Struct e = counted-within api (codes "member") e
members-within api kind.Union e = counted-within api (codes "member") e
members-within api kind.FuncPointer e =
    cond_both (is_some (child (codes "proto") e)) (filter (counts api) (children (codes "param") e)) [] (AreWithin (content_size e.content)) (λ _. counted-within api (codes "param") e) (λ _. none-within _)
members-within api kind.Command e = counted-within api (codes "param") e
members-within api _ e = none-within _

pub proto-within : (kind : Kind) (e : Element) → IfSome (proto_in kind e) (λ proto. element_size proto ≤ content_size e.content)
proto-within kind.FuncPointer e = child-within (codes "proto") e
proto-within kind.Command e = child-within (codes "proto") e
proto-within _ e = tt

pub result-short : (kind : Kind) (e : Element) → length (result_of kind e) ≤ element_size e
result-short kind e =
    or_empty-short (λ proto. collapse (text_before (codes "name") proto.content)) (proto_in kind e) (element_size e)
    (IfSome_then (proto_in kind e) (proto-within kind e) (λ proto within. omega (arith, within, collapse-short (text_before (codes "name") proto.content), before-short (codes "name") proto.content)))

each-small : (most : ℕ) (es : List Element) → All (λ e. element_size e ≤ most) es → All (IsSmallMember most) (map member_of (filter is_sound es))
each-small most [] within = All-nil (IsSmallMember most)
each-small most (e ∷ es) within =
    let rest = each-small most es (All-tail (λ x. element_size x ≤ most) e es within) in
    cond_both (is_sound e) (e ∷ filter is_sound es) (filter is_sound es) (λ kept. All (IsSmallMember most) (map member_of kept))
    (λ sound. All-cons (IsSmallMember most) (member_of e) (map member_of (filter is_sound es)) (member-more (element_size e) most (All-head (λ x. element_size x ≤ most) e es within) (member_of e) (member-small e sound)) rest)
    (λ _. rest)

pub members-small : (api : List ℕ) (kind : Kind) (e : Element) → All (IsSmallMember (element_size e)) (map member_of (sound_members api kind e))
members-small api kind e =
    each-small (element_size e) (members_in api kind e)
    (All-weaker (λ m. element_size m ≤ content_size e.content) (λ m. element_size m ≤ element_size e) (λ m within. omega (arith, within)) (members_in api kind e) (members-within api kind e).1)

pub members-few : (api : List ℕ) (kind : Kind) (e : Element) → length (map member_of (sound_members api kind e)) ≤ element_size e
members-few api kind e =
    omega (arith, length-map (sound_members api kind e) member_of, filter-few is_sound (members_in api kind e), (members-within api kind e).0)
