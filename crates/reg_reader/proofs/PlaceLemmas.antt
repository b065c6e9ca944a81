-- The places of a tree's elements rise.
use Rattle.std.proofs.Common.{◌≡◌, ℕ, ◌+◌, ◌<◌, ◌≤◌, List, [], ◌∷◌, ◌++◌, refl, sym, ap, subst, arith}
use Rattle.std.specs.Prelude.{◌==◌}
use Rattle.std.proofs.lemmas.Bool.{cond_both}
use Rattle.std.proofs.lemmas.List.{append-nil}
use Rattle.reg_reader.specs.Markup.{part_of, run_of, IsElement, ArePieces}
use Rattle.reg_reader.specs.Views.{Content, Element, elements_in}
use Rattle.reg_reader.specs.Shown.{joined, shown_node, content_of}
use Rattle.reg_reader.specs.Laws.{places_in, RiseFrom, PlacesRise}
use Rattle.reg_reader.specs.declared.markup.Part.{Part}
use Rattle.reg_reader.specs.declared.markup.Node.{Node}
use Rattle.reg_reader.specs.declared.markup.Node.TheOpen.{Node-F}
use Rattle.reg_reader.specs.declared.markup.Node.TheVariants as node
use Rattle.reg_reader.proofs.WithinLemmas.{tag-lt, characters-le, comment-le, end-le}
use Rattle.reg_reader.proofs.ViewLemmas.{content-element, content-chars, listed-append}

-- from a number on, and all before another
abbrev RiseWithin : ℕ → List ℕ → ℕ → Type 0
RiseWithin low [] high = low ≤ high
RiseWithin low (n ∷ more) high = (low ≤ n) × RiseWithin (n + 1) more high

lower : (low from high : ℕ) (xs : List ℕ) → low ≤ from → RiseWithin from xs high → RiseWithin low xs high
lower low from high [] le rise = omega (arith, rise)
lower low from high (x ∷ xs) le rise = (omega (arith, rise.0), rise.1)

higher : (low to high : ℕ) (xs : List ℕ) → to ≤ high → RiseWithin low xs to → RiseWithin low xs high
higher low to high [] le rise = omega (arith, rise)
higher low to high (x ∷ xs) le rise = (rise.0, higher (x + 1) to high xs le rise.1)

rise-append : (low middle high : ℕ) (xs ys : List ℕ) → RiseWithin low xs middle → RiseWithin middle ys high → RiseWithin low (xs ++ ys) high
rise-append low middle high [] ys first second = lower low middle high ys first second
rise-append low middle high (x ∷ xs) ys first second = (first.0, rise-append (x + 1) middle high xs ys first.1 second)

rise-from : (low high : ℕ) (xs : List ℕ) → RiseWithin low xs high → RiseFrom low xs
rise-from low high [] rise = tt
rise-from low high (x ∷ xs) rise = (rise.0, rise-from (x + 1) high xs rise.1)

module _ (b : List ℕ) where
  layer-places : (layer : Node-F (Content → Content)) (after : Content) → places_in (shown_node b layer after) ≡ places_in (shown_node b layer Content.none) ++ places_in after
  layer-places (Node-F.Element at name attributes children) after = ap (λ xs. xs ++ places_in after) (sym (append-nil (at ∷ places_in (joined children))))
  layer-places (Node-F.Chars part) after = refl

  joined-places : (low middle high : ℕ) (nodes more : List Node) → RiseWithin low (places_in (content_of b nodes)) middle → RiseWithin middle (places_in (content_of b more)) high → RiseWithin low (places_in (content_of b (nodes ++ more))) high
  joined-places low middle high nodes more first second =
      subst (λ xs. RiseWithin low xs high) (sym (listed-append b places_in layer-places refl nodes more)) (rise-append low middle high (places_in (content_of b nodes)) (places_in (content_of b more)) first second)

  run-places : (from to : ℕ) → from ≤ to → RiseWithin from (places_in (content_of b (run_of from to))) to
  run-places from to le =
      cond_both (from == to) _ _ (λ nodes. RiseWithin from (places_in (content_of b nodes)) to) (λ _. le)
      (λ _. subst (λ c. RiseWithin from (places_in c) to) (sym (content-chars b (part_of from to) [])) le)

  tag-places : (i j : ℕ) (name : Part) (attributes : List (Part × Part)) (children : List Node) (high : ℕ) → i < j → RiseWithin j (places_in (content_of b children)) high → RiseWithin i (places_in (content_of b (node.Element i name attributes children ∷ []))) high
  tag-places i j name attributes children high lt inner =
      subst (λ c. RiseWithin i (places_in c) high) (sym (content-element b i name attributes children []))
      (subst (λ xs. RiseWithin i xs high) (sym (append-nil (i ∷ places_in (content_of b children)))) (omega arith, lower (i + 1) j high (places_in (content_of b children)) (omega arith) inner))

  mutual
    element-places : {most outer i j : ℕ} {child : Node} → IsElement b most outer i j child → RiseWithin i (places_in (content_of b (child ∷ []))) j
    element-places (IsElement.empty {i = i} {j = j} {name = name} {attributes = attributes} deep tag slash greater) = tag-places i j name attributes [] (j + 2) (tag-lt tag) (let le : j ≤ j + 2 = omega arith in le)
    element-places (IsElement.filled {i = i} {j = j} {k = k} {m = m} {n = n} {name = name} {attributes = attributes} {children = children} deep tag greater pieces chars end) =
        tag-places i (j + 1) name attributes (children ++ run_of k m) n (let lt : i < j + 1 = omega (arith, tag-lt tag) in lt)
        (higher (j + 1) m n (places_in (content_of b (children ++ run_of k m))) (end-le end) (joined-places (j + 1) k m children (run_of k m) (pieces-places pieces) (run-places k m (characters-le chars))))

    pieces-places : {most outer i j : ℕ} {nodes : List Node} → ArePieces b most outer i j nodes → RiseWithin i (places_in (content_of b nodes)) j
    pieces-places (ArePieces.none {i = i}) = (let le : i ≤ i = omega arith in le)
    pieces-places (ArePieces.comment {i = i} {j = j} {k = k} {m = m} {nodes = nodes} pieces chars c) =
        higher i k m (places_in (content_of b (nodes ++ run_of j k))) (comment-le c) (joined-places i j k nodes (run_of j k) (pieces-places pieces) (run-places j k (characters-le chars)))
    pieces-places (ArePieces.element {i = i} {j = j} {k = k} {m = m} {nodes = nodes} {child = child} pieces chars element) =
        joined-places i k m (nodes ++ run_of j k) (child ∷ []) (joined-places i j k nodes (run_of j k) (pieces-places pieces) (run-places j k (characters-le chars))) (element-places element)

rise-front : (low : ℕ) (xs ys : List ℕ) → RiseFrom low (xs ++ ys) → RiseFrom low xs
rise-front low [] ys rise = tt
rise-front low (x ∷ xs) ys rise = (rise.0, rise-front (x + 1) xs ys rise.1)

pub first-same : {element other : Element} {more : List Element} → element ∷ more ≡ other ∷ [] → element ≡ other
first-same e = cc

pub none-whole : {P : Type 0} {element : Element} → [] ≡ element ∷ [] → P
none-whole e = cc

-- the places of an element are among those of contents in which it is the first
whole-places : (c : Content) (element : Element) (low : ℕ) → elements_in c ≡ element ∷ [] → RiseFrom low (places_in c) → RiseFrom low (element.place ∷ places_in element.content)
whole-places Content.none element low e rise = none-whole e
whole-places (Content.chars text after) element low e rise = whole-places after element low e rise
whole-places (Content.child place name attributes inner after) element low e rise =
    subst (λ (x : Element). RiseFrom low (x.place ∷ places_in x.content)) (first-same e) (rise-front low (place ∷ places_in inner) (places_in after) rise)

pub places-rise : PlacesRise
places-rise b element (root, spells, is) =
    let low = element-places b spells.element in
    whole-places (content_of b (root ∷ [])) element 0 is (rise-from 0 spells.to _ (lower 0 spells.from spells.to _ (omega arith) low))
