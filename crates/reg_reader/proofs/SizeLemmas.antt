-- An element is no larger than the text that spells it: each of its parts lies in a stretch of the text of its own.
use Rattle.std.proofs.Common.{◌≡◌, ℕ, ◌+◌, ◌-◌, ◌≤◌, List, [], ◌∷◌, ◌++◌, length, drop, sym, ap, subst, ◌∙◌, arith, length-take}
use Rattle.std.specs.Prelude.{◌==◌, sum_by}
use Rattle.std.proofs.lemmas.Bool.{cond_both}
use Rattle.std.proofs.lemmas.List.{map_push}
use Rattle.std.proofs.lemmas.List.Sums.{sum_by_push}
use Rattle.reg_reader.specs.Markup.{part_of, run_of, IsCharacters, AreAttributes, IsStartTag, IsElement, ArePieces}
use Rattle.reg_reader.specs.Views.{Content, Element, elements_in, attribute_size, content_size, element_size}
use Rattle.reg_reader.specs.Shown.{bytes_of, characters_of, attributes_of, shown_node, content_of}
use Rattle.reg_reader.specs.Laws.{ElementsAreNoLarger}
use Rattle.reg_reader.specs.declared.markup.Part.{Part}
use Rattle.reg_reader.specs.declared.markup.Node.{Node}
use Rattle.reg_reader.specs.declared.markup.Node.TheOpen.{Node-F}
use Rattle.reg_reader.specs.declared.markup.Node.TheViews.{out-Node}
use Rattle.reg_reader.specs.declared.markup.Node.TheFolds.{map-Node, fold-Node, fold_out-Node}
use Rattle.reg_reader.proofs.Sound.{each-le}
use Rattle.reg_reader.proofs.WithinLemmas.{name-le, characters-le, comment-le, end-le}
use Rattle.reg_reader.proofs.Parts.{blank-le}
use Rattle.reg_reader.proofs.ViewLemmas.{content-element, content-chars}
use Rattle.reg_reader.proofs.LawLemmas.{no-longer, are-undone}
use Rattle.reg_reader.proofs.PlaceLemmas.{first-same, none-whole}

module _ (b : List ℕ) where
  layer-size : (layer : Node-F (Content → Content)) (after : Content) → content_size (shown_node b layer after) ≡ content_size (shown_node b layer Content.none) + content_size after
  layer-size (Node-F.Element at name attributes children) after = omega arith
  layer-size (Node-F.Chars part) after = omega arith

  size-first : (tree : Node) (nodes : List Node) → content_size (content_of b (tree ∷ nodes)) ≡ content_size (content_of b (tree ∷ [])) + content_size (content_of b nodes)
  size-first tree nodes =
      subst (λ (f : Content → Content). content_size (f (content_of b nodes)) ≡ content_size (f Content.none) + content_size (content_of b nodes)) (sym (fold_out-Node (Content → Content) (shown_node b) tree))
      (layer-size (map-Node _ (Content → Content) (fold-Node (Content → Content) (shown_node b)) (out-Node tree)) (content_of b nodes))

  size-append : (nodes more : List Node) → content_size (content_of b (nodes ++ more)) ≡ content_size (content_of b nodes) + content_size (content_of b more)
  size-append [] more = omega arith
  size-append (tree ∷ nodes) more = omega (arith, size-first tree (nodes ++ more), size-first tree nodes, size-append nodes more)

  bytes-size : (part : Part) → part.from ≤ part.to → part.from + length (bytes_of b part) ≤ part.to
  bytes-size part le = omega (arith, le, length-take (part.to - part.from) (drop part.from b))

  characters-size : {stop : ℕ} {text : List ℕ} (part : Part) → IsCharacters b stop part.from part.to text → part.from + length (characters_of b part) ≤ part.to
  characters-size {stop} {text} part chars = omega (arith, no-longer b stop part.from part.to text chars, ap length (are-undone b stop part text chars))

  size-push : (attributes : List (Part × Part)) (attribute : Part × Part) → sum_by attribute_size (attributes_of b (attributes ++ attribute ∷ [])) ≡ sum_by attribute_size (attributes_of b attributes) + (length (bytes_of b attribute.0) + length (characters_of b attribute.1))
  size-push attributes attribute =
      ap (sum_by attribute_size) (map_push (λ (x : Part × Part). (bytes_of b x.0, characters_of b x.1)) attributes attribute) ∙ sum_by_push attribute_size (attributes_of b attributes) _

  attributes-size : {i j : ℕ} {attributes : List (Part × Part)} → AreAttributes b i j attributes → i + sum_by attribute_size (attributes_of b attributes) ≤ j
  attributes-size AreAttributes.none = omega arith
  attributes-size (AreAttributes.more {attributes = attributes} {name = name} {value = value} before is) =
      omega (
        arith,
        attributes-size before,
        size-push attributes (name, value),
        each-le is.white,
        bytes-size name (omega (arith, name-le is.named)),
        each-le is.before_equals,
        each-le is.after_equals,
        is.value_from,
        characters-size value is.characters,
        is.whole,
      )

  tag-size : {i j : ℕ} {name : Part} {attributes : List (Part × Part)} → IsStartTag b i name attributes j → i + 1 + length (bytes_of b name) + sum_by attribute_size (attributes_of b attributes) ≤ j
  tag-size {name = name} tag = omega (arith, tag.name_from, bytes-size name (omega (arith, name-le tag.named)), attributes-size tag.listed, each-le tag.white)

  run-size : {stop from to : ℕ} {text : List ℕ} → IsCharacters b stop from to text → from + content_size (content_of b (run_of from to)) ≤ to
  run-size {from = from} {to = to} chars =
      cond_both (from == to) _ _ (λ nodes. from + content_size (content_of b nodes) ≤ to) (λ _. let le : from + 0 ≤ to = omega (arith, characters-le chars) in le)
      (λ _. subst (λ c. from + content_size c ≤ to) (sym (content-chars b (part_of from to) [])) (let le : from + (length (characters_of b (part_of from to)) + 0) ≤ to = omega (arith, characters-size (part_of from to) chars) in le))

  mutual
    element-size : {most outer i j : ℕ} {child : Node} → IsElement b most outer i j child → i + content_size (content_of b (child ∷ [])) ≤ j
    element-size (IsElement.empty {i = i} {j = j} {name = name} {attributes = attributes} deep tag slash greater) =
        subst (λ c. i + content_size c ≤ j + 2) (sym (content-element b i name attributes [] [])) (omega (arith, tag-size tag))
    element-size (IsElement.filled {i = i} {k = k} {m = m} {n = n} {name = name} {attributes = attributes} {children = children} deep tag greater pieces chars end) =
        subst (λ c. i + content_size c ≤ n) (sym (content-element b i name attributes (children ++ run_of k m) []))
        (omega (arith, tag-size tag, pieces-size pieces, run-size chars, size-append children (run_of k m), end-le end))

    pieces-size : {most outer i j : ℕ} {nodes : List Node} → ArePieces b most outer i j nodes → i + content_size (content_of b nodes) ≤ j
    pieces-size ArePieces.none = omega arith
    pieces-size (ArePieces.comment {j = j} {k = k} {nodes = nodes} pieces chars c) =
        omega (arith, pieces-size pieces, run-size chars, size-append nodes (run_of j k), comment-le c)
    pieces-size (ArePieces.element {j = j} {k = k} {nodes = nodes} {child = child} pieces chars element) =
        omega (arith, pieces-size pieces, run-size chars, element-size element, size-append nodes (run_of j k), size-append (nodes ++ run_of j k) (child ∷ []))

-- contents are no smaller than the first element right in them
whole-size : (c : Content) (element : Element) → elements_in c ≡ element ∷ [] → element_size element ≤ content_size c
whole-size Content.none element e = none-whole e
whole-size (Content.chars text after) element e = omega (arith, whole-size after element e)
whole-size (Content.child place name attributes inner after) element e =
    subst (λ (x : Element). element_size x ≤ content_size (Content.child place name attributes inner after)) (first-same e) (omega arith)

pub no-larger : ElementsAreNoLarger
no-larger b element (root, spells, is) =
    omega (arith, whole-size (content_of b (root ∷ [])) element is, element-size b spells.element, blank-le spells.blank)
