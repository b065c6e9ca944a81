-- No element of a tree has two attributes of one name.
use Rattle.std.proofs.Common.{◌≡◌, ℕ, true, false, List, [], ◌∷◌, ◌++◌, refl, sym, ap, subst, ◌∙◌}
use Rattle.std.specs.Prelude.{◌==◌}
use Rattle.std.specs.List.{AllByRecursion}
use Rattle.std.specs.Str.{bytes_eq}
use Rattle.std.proofs.lemmas.Bool.{cond_both, or_parts}
use Rattle.std.proofs.lemmas.List.{append-nil, map-append}
use Rattle.std.proofs.lemmas.Slice.Eq.{bytes_eq-Decides}
use Rattle.reg_reader.specs.Markup.{part_of, run_of, is_taken, AreAttributes, IsElement, ArePieces}
use Rattle.reg_reader.specs.Views.{Content, Element, elements_in}
use Rattle.reg_reader.specs.Shown.{bytes_of, characters_of, attributes_of, joined, shown_node, content_of}
use Rattle.reg_reader.specs.Laws.{NamesDiffer, tags_in, AttributesDiffer}
use Rattle.reg_reader.specs.declared.markup.Part.{Part}
use Rattle.reg_reader.specs.declared.markup.Node.{Node}
use Rattle.reg_reader.specs.declared.markup.Node.TheOpen.{Node-F}
use Rattle.reg_reader.specs.declared.markup.Node.TheVariants as node
use Rattle.reg_reader.proofs.ViewLemmas.{content-element, content-chars, listed-append}
use Rattle.reg_reader.proofs.PlaceLemmas.{first-same, none-whole}

abbrev Attribute : Type 0
Attribute = List ℕ × List ℕ

all-append : {X : Type 0} (P : X → Type 0) (xs ys : List X) → AllByRecursion P xs → AllByRecursion P ys → AllByRecursion P (xs ++ ys)
all-append P [] ys first second = second
all-append P (x ∷ xs) ys first second = (first.0, all-append P xs ys first.1 second)

all-front : {X : Type 0} (P : X → Type 0) (xs ys : List X) → AllByRecursion P (xs ++ ys) → AllByRecursion P xs
all-front P [] ys all = tt
all-front P (x ∷ xs) ys all = (all.0, all-front P xs ys all.1)

differ-push : (xs : List Attribute) (x : Attribute) → NamesDiffer xs → AllByRecursion (λ other. other.0 ≡ x.0 → ⊥) xs → NamesDiffer (xs ++ x ∷ [])
differ-push [] x differ new = (tt, tt)
differ-push (y ∷ xs) x differ new = (all-append (λ other. y.0 ≡ other.0 → ⊥) xs (x ∷ []) differ.0 (new.0, tt), differ-push xs x differ.1 new.1)

different : (xs ys : List ℕ) → bytes_eq xs ys ≡ false → xs ≡ ys → ⊥
different xs ys f e = let h : false ≡ true = sym f ∙ (bytes_eq-Decides xs ys).1 e in cc

module _ (b : List ℕ) where
  not-taken : (attributes : List (Part × Part)) (name : Part) → is_taken b attributes name.from name.to ≡ false → AllByRecursion (λ other. other.0 ≡ bytes_of b name → ⊥) (attributes_of b attributes)
  not-taken [] name e = tt
  not-taken (attribute ∷ more) name e =
      let parts = or_parts (bytes_eq (bytes_of b attribute.0) (bytes_of b name)) (is_taken b more name.from name.to) e in
      (different (bytes_of b attribute.0) (bytes_of b name) parts.0, not-taken more name parts.1)

  attributes-differ : {i j : ℕ} {attributes : List (Part × Part)} → AreAttributes b i j attributes → NamesDiffer (attributes_of b attributes)
  attributes-differ AreAttributes.none = tt
  attributes-differ (AreAttributes.more {attributes = attributes} {name = name} {value = value} before is) =
      subst NamesDiffer (sym (map-append (λ (a : Part × Part). (bytes_of b a.0, characters_of b a.1)) attributes ((name, value) ∷ [])))
      (differ-push (attributes_of b attributes) (bytes_of b name, characters_of b value) (attributes-differ before) (not-taken attributes name is.new))

  layer-tags : (layer : Node-F (Content → Content)) (after : Content) → tags_in (shown_node b layer after) ≡ tags_in (shown_node b layer Content.none) ++ tags_in after
  layer-tags (Node-F.Element at name attributes children) after = ap (λ xs. xs ++ tags_in after) (sym (append-nil (attributes_of b attributes ∷ tags_in (joined children))))
  layer-tags (Node-F.Chars part) after = refl

  joined-tags : (nodes more : List Node) → AllByRecursion NamesDiffer (tags_in (content_of b nodes)) → AllByRecursion NamesDiffer (tags_in (content_of b more)) → AllByRecursion NamesDiffer (tags_in (content_of b (nodes ++ more)))
  joined-tags nodes more first second =
      subst (AllByRecursion NamesDiffer) (sym (listed-append b tags_in layer-tags refl nodes more)) (all-append NamesDiffer (tags_in (content_of b nodes)) (tags_in (content_of b more)) first second)

  run-tags : (from to : ℕ) → AllByRecursion NamesDiffer (tags_in (content_of b (run_of from to)))
  run-tags from to =
      cond_both (from == to) _ _ (λ nodes. AllByRecursion NamesDiffer (tags_in (content_of b nodes))) (λ _. tt)
      (λ _. subst (λ c. AllByRecursion NamesDiffer (tags_in c)) (sym (content-chars b (part_of from to) [])) tt)

  tag-tags : (i : ℕ) (name : Part) (attributes : List (Part × Part)) (children : List Node) → NamesDiffer (attributes_of b attributes) → AllByRecursion NamesDiffer (tags_in (content_of b children)) → AllByRecursion NamesDiffer (tags_in (content_of b (node.Element i name attributes children ∷ [])))
  tag-tags i name attributes children differ inner =
      subst (λ c. AllByRecursion NamesDiffer (tags_in c)) (sym (content-element b i name attributes children []))
      (subst (AllByRecursion NamesDiffer) (sym (append-nil (attributes_of b attributes ∷ tags_in (content_of b children)))) (differ, inner))

  mutual
    element-tags : {most outer i j : ℕ} {child : Node} → IsElement b most outer i j child → AllByRecursion NamesDiffer (tags_in (content_of b (child ∷ [])))
    element-tags (IsElement.empty {i = i} {name = name} {attributes = attributes} deep tag slash greater) = tag-tags i name attributes [] (attributes-differ tag.listed) tt
    element-tags (IsElement.filled {i = i} {k = k} {m = m} {name = name} {attributes = attributes} {children = children} deep tag greater pieces chars end) =
        tag-tags i name attributes (children ++ run_of k m) (attributes-differ tag.listed) (joined-tags children (run_of k m) (pieces-tags pieces) (run-tags k m))

    pieces-tags : {most outer i j : ℕ} {nodes : List Node} → ArePieces b most outer i j nodes → AllByRecursion NamesDiffer (tags_in (content_of b nodes))
    pieces-tags ArePieces.none = tt
    pieces-tags (ArePieces.comment {j = j} {k = k} {nodes = nodes} pieces chars c) = joined-tags nodes (run_of j k) (pieces-tags pieces) (run-tags j k)
    pieces-tags (ArePieces.element {j = j} {k = k} {nodes = nodes} {child = child} pieces chars element) =
        joined-tags (nodes ++ run_of j k) (child ∷ []) (joined-tags nodes (run_of j k) (pieces-tags pieces) (run-tags j k)) (element-tags element)

-- the tags of an element are among those of contents in which it is the first
whole-tags : (c : Content) (element : Element) → elements_in c ≡ element ∷ [] → AllByRecursion NamesDiffer (tags_in c) → AllByRecursion NamesDiffer (element.attributes ∷ tags_in element.content)
whole-tags Content.none element e all = none-whole e
whole-tags (Content.chars text after) element e all = whole-tags after element e all
whole-tags (Content.child place name attributes inner after) element e all =
    subst (λ (x : Element). AllByRecursion NamesDiffer (x.attributes ∷ tags_in x.content)) (first-same e) (all-front NamesDiffer (attributes ∷ tags_in inner) (tags_in after) all)

pub attributes-differ-all : AttributesDiffer
attributes-differ-all b element (root, spells, is) = whole-tags (content_of b (root ∷ [])) element is (element-tags b spells.element)
