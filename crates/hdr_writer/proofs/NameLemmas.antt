-- The longest tag in which a name ends, tag by tag.
use Rattle.std.proofs.Common.{◌≡◌, ◌∙◌, ◌++◌, ◌+◌, ◌-◌, ◌<◌, ◌≤◌, ℕ, Bool, true, false, cond, List, [], ◌∷◌, length, get_or, drop, take, refl, sym, ap, arith, ltb, lt-ltb, le-ltb}
use Rattle.std.proofs.lemmas.Bool.{and_from, and_left, and_right}
use Rattle.std.proofs.lemmas.List.Elements.{filter_more}
use Rattle.std.proofs.lemmas.Grind.{fold-append}
use Rattle.std.specs.Cmp.Lexicographic.{bytes_decides}
use Rattle.std.specs.List.{ends_with, filter, fold}
use Rattle.std.specs.Prelude.{nat_eq}
use Rattle.hdr_writer.specs.MaxNames.{ends_in_tag, longer_of, tag_of}

-- how long the longest tag is among some, and that the name ends in it
pub record IsLongest (tags : List (List ℕ)) (name : List ℕ) (longest : ℕ) : Type 0 where
  pub length_is : longest ≡ length (tag_of tags name)
  pub within : longest ≤ length name
  pub tag_is : drop (length name - longest) name ≡ tag_of tags name

by-test : (best tag : List ℕ) (b : Bool) → fold longer_of best (cond b (tag ∷ []) []) ≡ cond b (longer_of best tag) best
by-test best tag true = refl
by-test best tag false = refl

-- one tag more
tag-more : (tags : List (List ℕ)) (name tag : List ℕ) (i : ℕ) → i < length tags → tag ≡ get_or tags i tag
    → tag_of (take (i + 1) tags) name ≡ cond (ends_in_tag name tag) (longer_of (tag_of (take i tags) name) tag) (tag_of (take i tags) name)
tag-more tags name tag i h here =
    ap (fold longer_of []) (filter_more (ends_in_tag name) tags i tag h ∙ ap (λ t. filter (ends_in_tag name) (take i tags) ++ cond (ends_in_tag name t) (t ∷ []) []) (sym here))
    ∙ fold-append longer_of [] (filter (ends_in_tag name) (take i tags)) (cond (ends_in_tag name tag) (tag ∷ []) [])
    ∙ by-test (tag_of (take i tags) name) tag (ends_in_tag name tag)

-- the tag is longer than those before, and the name ends in it
pub longer-tag : (tags : List (List ℕ)) (name tag : List ℕ) (i longest : ℕ) → i < length tags → tag ≡ get_or tags i tag → IsLongest (take i tags) name longest
    → longest < length tag → length tag < length name → ends_with nat_eq name tag ≡ true → IsLongest (take (i + 1) tags) name (length tag)
longer-tag tags name tag i longest h here was longer within ends =
    let best = tag_of (take i tags) name in
    let test : ends_in_tag name tag ≡ true = and_from (ltb (length tag) (length name)) (ends_with nat_eq name tag) (lt-ltb (length tag) (length name) within) ends in
    let more : length best < length tag = omega (arith, was.length_is) in
    let is : tag_of (take (i + 1) tags) name ≡ tag =
    tag-more tags name tag i h here ∙ ap (λ b. cond b (longer_of best tag) best) test
    ∙ ap (λ b. cond b tag best) (lt-ltb (length best) (length tag) more) in
    record {
      length_is = ap length (sym is);
      within = omega arith;
      tag_is = sym ((bytes_decides tag (drop (length name - length tag) name)).0 ends) ∙ sym is;
    }

-- the name doesn't end in the tag
pub other-tag : (tags : List (List ℕ)) (name tag : List ℕ) (i longest : ℕ) → i < length tags → tag ≡ get_or tags i tag → IsLongest (take i tags) name longest
    → ends_in_tag name tag ≡ false → IsLongest (take (i + 1) tags) name longest
other-tag tags name tag i longest h here was test =
    let best = tag_of (take i tags) name in
    let is : tag_of (take (i + 1) tags) name ≡ best = tag-more tags name tag i h here ∙ ap (λ b. cond b (longer_of best tag) best) test in
    record {
      length_is = was.length_is ∙ ap length (sym is);
      within = was.within;
      tag_is = was.tag_is ∙ sym is;
    }

pub no-end : (name tag : List ℕ) → ends_with nat_eq name tag ≡ false → ends_in_tag name tag ≡ false
no-end name tag h = and_right (ltb (length tag) (length name)) (ends_with nat_eq name tag) h

pub too-long : (name tag : List ℕ) → length name ≤ length tag → ends_in_tag name tag ≡ false
too-long name tag h = and_left (ltb (length tag) (length name)) (ends_with nat_eq name tag) (le-ltb (length tag) (length name) h)

same-best : (b : Bool) (best : List ℕ) → cond b best best ≡ best
same-best true best = refl
same-best false best = refl

-- the tag is no longer than one before
pub shorter-tag : (tags : List (List ℕ)) (name tag : List ℕ) (i longest : ℕ) → i < length tags → tag ≡ get_or tags i tag → IsLongest (take i tags) name longest
    → length tag ≤ longest → IsLongest (take (i + 1) tags) name longest
shorter-tag tags name tag i longest h here was shorter =
    let best = tag_of (take i tags) name in
    let less : length tag ≤ length best = omega (arith, was.length_is) in
    let is : tag_of (take (i + 1) tags) name ≡ best =
    tag-more tags name tag i h here ∙ ap (λ l. cond (ends_in_tag name tag) l best) (ap (λ b. cond b tag best) (le-ltb (length best) (length tag) less))
    ∙ same-best (ends_in_tag name tag) best in
    record {
      length_is = was.length_is ∙ ap length (sym is);
      within = was.within;
      tag_is = was.tag_is ∙ sym is;
    }
