-- What an element says, against its size: how many things, how long they are, and that blocks come behind options, and names behind blocks.
use Rattle.std.proofs.Common.{◌≡◌, ℕ, suc, ◌+◌, ◌<◌, ◌≤◌, Bool, true, List, [], ◌∷◌, ◌++◌, length, filter, map, Option, refl, arith}
use Rattle.std.specs.Prelude.{All, IfSome, sum_by}
use Rattle.std.specs.List.{flat_map}
use Rattle.std.proofs.lemmas.Bool.{cond_both}
use Rattle.std.proofs.lemmas.List.Elements.{All-append, All-cons, All-nil, All-weaker}
use Rattle.std.proofs.lemmas.List.Sums.{sum_by-append, sum_by-cons}
use Rattle.std.proofs.lemmas.Option.{IfSome_then}
use Rattle.reg_registry.specs.Words.{is_name}
use Rattle.reg_reader.specs.Views.{Content, Element, content_size, element_size, elements_in}
use Rattle.reg_forms.specs.declared.forms.Declaration.{Declaration}
use Rattle.reg_forms.specs.declared.forms.EnumForm.{EnumForm}
use Rattle.reg_forms.specs.declared.forms.Fault.{Fault}
use Rattle.reg_forms.specs.declared.forms.GroupForm.{GroupForm}
use Rattle.reg_forms.specs.declared.forms.MemberForm.{MemberForm}
use Rattle.reg_forms.specs.declared.forms.Mention.{Mention}
use Rattle.reg_forms.specs.Options.{is_option_name}
use Rattle.reg_forms.specs.Items.{Item, bad_at, unless_bad}
use Rattle.reg_forms.specs.Sizes.{IsSmallDeclaration, IsSmallMember}
use Rattle.reg_forms.proofs.TextSizeLemmas.{IsShortName}

-- A way to count things said: it counts no fault and no mere mention, and at most one of what an element says itself.
pub record IsCount (count : Item → ℕ) : Type 0 where
  pub wrong : (fault : Fault) → count (Item.wrong fault) ≡ 0
  pub mentions : (mention : Mention) → count (Item.mentions mention) ≡ 0
  pub tags : (tag : List ℕ) → count (Item.tags tag) ≤ 1
  pub groups : (group : GroupForm) → count (Item.groups group) ≤ 1
  pub offers : (place : ℕ) (name : List ℕ) (version : Option (ℕ × ℕ)) (depends : Option (List ℕ)) → count (Item.offers place name version depends) ≤ 1
  pub opens : (place : ℕ) (adds : Bool) (depends : Option (List ℕ)) → count (Item.opens place adds depends) ≤ 1
  pub declares : (declaration : Declaration) (mention : Mention) → count (Item.declares declaration) + count (Item.lists mention) ≤ 1
  pub numbers : (enumerant : EnumForm) (mention : Mention) → count (Item.numbers enumerant) + count (Item.lists mention) ≤ 1

-- the names in it are names, and it has no text longer than that
abbrev pub IsSmallItem : ℕ → Item → Type 0
IsSmallItem most (Item.declares declaration) = IsSmallDeclaration most declaration
IsSmallItem most (Item.numbers enumerant) = IsShortName most enumerant.name
IsSmallItem most (Item.offers place name version depends) = ((is_name name ≡ true) × (is_option_name name ≡ true)) × IfSome depends (λ text. length text ≤ most)
IsSmallItem most (Item.opens place adds depends) = IfSome depends (λ text. length text ≤ most)
IsSmallItem most _ = Unit {0}

-- behind so many options and blocks, each block comes behind an option, and each name that is listed behind a block
abbrev pub IsOrdered : ℕ → ℕ → List Item → Type 0
IsOrdered options blocks [] = Unit {0}
IsOrdered options blocks (Item.offers place name version depends ∷ more) = IsOrdered (suc options) blocks more
IsOrdered options blocks (Item.opens place adds depends ∷ more) = (0 < options) × IsOrdered options (suc blocks) more
IsOrdered options blocks (Item.lists mention ∷ more) = (0 < blocks) × IsOrdered options blocks more
IsOrdered options blocks (_ ∷ more) = IsOrdered options blocks more

-- no more is said than that size has room for, behind so many options and blocks
pub record Fits (size options blocks : ℕ) (items : List Item) : Type 0 where
  pub few : (count : Item → ℕ) → IsCount count → sum_by count items ≤ size
  pub small : All (IsSmallItem size) items
  pub ordered : IsOrdered options blocks items

pub member-more : (n most : ℕ) → n ≤ most → (m : MemberForm) → IsSmallMember n m → IsSmallMember most m
member-more n most more m small = record {
  named = small.named;
  name = omega (arith, small.name);
  text = omega (arith, small.text);
  base = omega (arith, small.base);
  values = omega (arith, small.values);
  len = omega (arith, small.len);
  stars = omega (arith, small.stars);
}

declaration-more : (n most : ℕ) → n ≤ most → (d : Declaration) → IsSmallDeclaration n d → IsSmallDeclaration most d
declaration-more n most more d small = record {
  named = small.named;
  name = omega (arith, small.name);
  text = omega (arith, small.text);
  result = omega (arith, small.result);
  extends = omega (arith, small.extends);
  members = omega (arith, small.members);
  each_member = All-weaker (IsSmallMember n) (IsSmallMember most) (member-more n most more) d.members small.each_member;
  mentions = omega (arith, small.mentions);
}

text-more : (n most : ℕ) → n ≤ most → (depends : Option (List ℕ)) → IfSome depends (λ text. length text ≤ n) → IfSome depends (λ text. length text ≤ most)
text-more n most more depends short = IfSome_then depends short (λ text within. omega (arith, more, within))

item-more : (n most : ℕ) → n ≤ most → (item : Item) → IsSmallItem n item → IsSmallItem most item
item-more n most more (Item.declares declaration) small = declaration-more n most more declaration small
item-more n most more (Item.numbers enumerant) small = (small.0, omega (arith, more, small.1))
item-more n most more (Item.offers place name version depends) small = (small.0, text-more n most more depends small.1)
item-more n most more (Item.opens place adds depends) small = text-more n most more depends small
item-more n most more _ small = tt

pub ordered-more : (items : List Item) (o b options blocks : ℕ) → o ≤ options → b ≤ blocks → IsOrdered o b items → IsOrdered options blocks items
ordered-more [] o b options blocks p q ordered = tt
ordered-more (Item.offers place name version depends ∷ more) o b options blocks p q ordered =
    ordered-more more (suc o) b (suc options) blocks (omega (arith, p)) q ordered
ordered-more (Item.opens place adds depends ∷ more) o b options blocks p q ordered =
    (omega (arith, p, ordered.0), ordered-more more o (suc b) options (suc blocks) p (omega (arith, q)) ordered.1)
ordered-more (Item.lists mention ∷ more) o b options blocks p q ordered = (omega (arith, q, ordered.0), ordered-more more o b options blocks p q ordered.1)
ordered-more (_ ∷ more) o b options blocks p q ordered = ordered-more more o b options blocks p q ordered

ordered-append : (xs ys : List Item) (o b options blocks : ℕ) → o ≤ options → b ≤ blocks → IsOrdered options blocks xs → IsOrdered o b ys → IsOrdered options blocks (xs ++ ys)
ordered-append [] ys o b options blocks p q first second = ordered-more ys o b options blocks p q second
ordered-append (Item.offers place name version depends ∷ more) ys o b options blocks p q first second =
    ordered-append more ys o b (suc options) blocks (omega (arith, p)) q first second
ordered-append (Item.opens place adds depends ∷ more) ys o b options blocks p q first second =
    (first.0, ordered-append more ys o b options (suc blocks) p (omega (arith, q)) first.1 second)
ordered-append (Item.lists mention ∷ more) ys o b options blocks p q first second = (first.0, ordered-append more ys o b options blocks p q first.1 second)
ordered-append (_ ∷ more) ys o b options blocks p q first second = ordered-append more ys o b options blocks p q first second

module _ (options blocks : ℕ) where
  pub fits-none : (n : ℕ) → Fits n options blocks []
  fits-none n = record { few = λ count is. omega arith; small = All-nil (IsSmallItem n); ordered = tt }

  pub fits-more : (n most : ℕ) (items : List Item) → n ≤ most → Fits n options blocks items → Fits most options blocks items
  fits-more n most items more fits = record {
    few = λ count is. omega (arith, more, fits.few count is);
    small = All-weaker (IsSmallItem n) (IsSmallItem most) (item-more n most more) items fits.small;
    ordered = fits.ordered;
  }

  pub fits-append : (n m most : ℕ) (xs ys : List Item) → n + m ≤ most → Fits n options blocks xs → Fits m options blocks ys → Fits most options blocks (xs ++ ys)
  fits-append n m most xs ys room first second = record {
    few = λ count is. omega (arith, room, first.few count is, second.few count is, sum_by-append count xs ys);
    small =
        All-append (IsSmallItem most) xs ys
        (All-weaker (IsSmallItem n) (IsSmallItem most) (item-more n most (omega (arith, room))) xs first.small)
        (All-weaker (IsSmallItem m) (IsSmallItem most) (item-more m most (omega (arith, room))) ys second.small);
    ordered = ordered-append xs ys options blocks options blocks (omega arith) (omega arith) first.ordered second.ordered;
  }

  pub fits-wrong : (n : ℕ) (fault : Fault) → Fits n options blocks (Item.wrong fault ∷ [])
  fits-wrong n fault = record {
    few = λ count is. omega (arith, is.wrong fault, sum_by-cons count (Item.wrong fault) []);
    small = All-cons (IsSmallItem n) (Item.wrong fault) [] tt (All-nil (IsSmallItem n));
    ordered = tt;
  }

  pub fits-bad : (n : ℕ) (e : Element) (words : List (List ℕ)) → Fits n options blocks (map (bad_at e) words)
  fits-bad n e [] = fits-none n
  fits-bad n e (word ∷ words) =
      fits-append 0 n n (bad_at e word ∷ []) (map (bad_at e) words) (omega arith) (fits-wrong 0 _) (fits-bad n e words)

  -- where nothing bad is told of, that fits
  pub fits-unless : (n : ℕ) (e : Element) (words : List (List ℕ)) (items : List Item) → (words ≡ [] → Fits n options blocks items) → Fits n options blocks (unless_bad e words items)
  fits-unless n e [] items fits = fits refl
  fits-unless n e (word ∷ words) items fits = fits-bad n e (word ∷ words)

  pub fits-mentions : (n : ℕ) (mentions : List Mention) → Fits n options blocks (map Item.mentions mentions)
  fits-mentions n [] = fits-none n
  fits-mentions n (mention ∷ mentions) =
      fits-append 0 n n (Item.mentions mention ∷ []) (map Item.mentions mentions) (omega arith)
      (record {
        few = λ count is. omega (arith, is.mentions mention, sum_by-cons count (Item.mentions mention) []);
        small = All-cons (IsSmallItem 0) (Item.mentions mention) [] tt (All-nil (IsSmallItem 0));
        ordered = tt;
      })
      (fits-mentions n mentions)

  module _ (say : Element → List Item) (each : (e : Element) → Fits (element_size e) options blocks (say e)) where
    -- what the elements between two tags say
    pub fits-each : (c : Content) → Fits (content_size c) options blocks (flat_map say (elements_in c))
    fits-each Content.none = fits-none 0
    fits-each (Content.chars text after) =
        fits-more (content_size after) (content_size (Content.chars text after)) (flat_map say (elements_in after)) (omega arith) (fits-each after)
    fits-each (Content.child place name attributes inner after) =
        let e : Element = record { place = place; name = name; attributes = attributes; content = inner } in
        fits-append (element_size e) (content_size after) (content_size (Content.child place name attributes inner after)) (say e) (flat_map say (elements_in after)) (omega arith) (each e) (fits-each after)

    -- what those of them say that pass a test
    pub fits-kept : (test : Element → Bool) (c : Content) → Fits (content_size c) options blocks (flat_map say (filter test (elements_in c)))
    fits-kept test Content.none = fits-none 0
    fits-kept test (Content.chars text after) =
        fits-more (content_size after) (content_size (Content.chars text after)) (flat_map say (filter test (elements_in after))) (omega arith) (fits-kept test after)
    fits-kept test (Content.child place name attributes inner after) =
        let e : Element = record { place = place; name = name; attributes = attributes; content = inner } in
        cond_both (test e) (e ∷ filter test (elements_in after)) (filter test (elements_in after)) (λ es. Fits (content_size (Content.child place name attributes inner after)) options blocks (flat_map say es))
        (λ _. fits-append (element_size e) (content_size after) (content_size (Content.child place name attributes inner after)) (say e) (flat_map say (filter test (elements_in after))) (omega arith) (each e) (fits-kept test after))
        (λ _. fits-more (content_size after) (content_size (Content.child place name attributes inner after)) (flat_map say (filter test (elements_in after))) (omega arith) (fits-kept test after))

-- an option, with what is said behind it
pub fits-offers : (n most options blocks place : ℕ) (name : List ℕ) (version : Option (ℕ × ℕ)) (depends : Option (List ℕ)) (items : List Item) → n < most → (is_name name ≡ true) × (is_option_name name ≡ true) → IfSome depends (λ text. length text ≤ most) → Fits n (suc options) blocks items → Fits most options blocks (Item.offers place name version depends ∷ items)
fits-offers n most options blocks place name version depends items room named short fits = record {
  few = λ count is. omega (arith, room, fits.few count is, is.offers place name version depends, sum_by-cons count (Item.offers place name version depends) items);
  small =
      All-cons (IsSmallItem most) (Item.offers place name version depends) items (named, short)
      (All-weaker (IsSmallItem n) (IsSmallItem most) (item-more n most (omega (arith, room))) items fits.small);
  ordered = fits.ordered;
}

-- a block of an option before it, with what is said behind it
pub fits-opens : (n most options blocks place : ℕ) (adds : Bool) (depends : Option (List ℕ)) (items : List Item) → n < most → IfSome depends (λ text. length text ≤ most) → Fits n (suc options) (suc blocks) items → Fits most (suc options) blocks (Item.opens place adds depends ∷ items)
fits-opens n most options blocks place adds depends items room short fits = record {
  few = λ count is. omega (arith, room, fits.few count is, is.opens place adds depends, sum_by-cons count (Item.opens place adds depends) items);
  small =
      All-cons (IsSmallItem most) (Item.opens place adds depends) items short
      (All-weaker (IsSmallItem n) (IsSmallItem most) (item-more n most (omega (arith, room))) items fits.small);
  ordered = (omega arith, fits.ordered);
}

-- a block of enumerants, with what is said in it
pub fits-groups : (n most options blocks : ℕ) (group : GroupForm) (items : List Item) → n < most → Fits n options blocks items → Fits most options blocks (Item.groups group ∷ items)
fits-groups n most options blocks group items room fits = record {
  few = λ count is. omega (arith, room, fits.few count is, is.groups group, sum_by-cons count (Item.groups group) items);
  small =
      All-cons (IsSmallItem most) (Item.groups group) items tt
      (All-weaker (IsSmallItem n) (IsSmallItem most) (item-more n most (omega (arith, room))) items fits.small);
  ordered = fits.ordered;
}
