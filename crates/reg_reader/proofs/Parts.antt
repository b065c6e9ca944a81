-- The parts of a tree lie in the text that spells it.
use Rattle.std.proofs.Common.{sym, ap, subst, ◌∙◌, ◌≡◌, ℕ, ◌<◌, ◌≤◌, List, [], ◌++◌, length, arith}
use Rattle.std.specs.Prelude.{◌==◌, All}
use Rattle.std.proofs.lemmas.Bool.{cond_both}
use Rattle.std.proofs.lemmas.List.Elements.{All-nil, All-append, All-push}
use Rattle.reg_reader.specs.Markup.{part_of, run_of, IsName, IsBlank, IsCharacters, AreAttributes, IsStartTag, IsElement, ArePieces, IsNamePart, IsCharactersPart, IsAttributeThere, IsNodeThere, children_of, HasParts, PartsAreThere}
use Rattle.reg_reader.specs.declared.markup.Part.{Part}
use Rattle.reg_reader.specs.declared.markup.Node.{Node}
use Rattle.reg_reader.specs.declared.markup.Node.TheOpen.{Node-F}
use Rattle.reg_reader.specs.declared.markup.Node.TheViews.{out-Node, out-roll-Node}
use Rattle.reg_reader.specs.declared.markup.Node.TheVariants as node
use Rattle.reg_reader.proofs.Sound.{each-le}
use Rattle.reg_reader.proofs.WithinLemmas.{name-le, attributes-within, characters-le, comment-le, end-le, element-le, pieces-le}

pub element-out : (at : ℕ) (name : Part) (attributes : List (Part × Part)) (children : List Node) → out-Node (node.Element at name attributes children) ≡ Node-F.Element at name attributes children
element-out at name attributes children = ap out-Node (sym (node.rolls-Element at name attributes children)) ∙ out-roll-Node (Node-F.Element at name attributes children)

pub chars-out : (part : Part) → out-Node (node.Chars part) ≡ Node-F.Chars part
chars-out part = ap out-Node (sym (node.rolls-Chars part)) ∙ out-roll-Node (Node-F.Chars part)

made : (b : List ℕ) (tree : Node) (layer : Node-F Node) → out-Node tree ≡ layer → IsNodeThere b layer → All (HasParts b) (children_of layer) → HasParts b tree
made b tree layer e there inner = HasParts.parts (subst (IsNodeThere b) (sym e) there) (subst (λ l. All (HasParts b) (children_of l)) (sym e) inner)

module _ {b : List ℕ} where
  pub blank-le : {i j : ℕ} → IsBlank b i j → i ≤ j
  blank-le IsBlank.none = omega arith
  blank-le (IsBlank.white blank w) = omega (arith, blank-le blank)
  blank-le (IsBlank.comment blank c) = omega (arith, blank-le blank, comment-le c)

  named-part : (name : Part) → IsName b name.from name.to → name.to ≤ length b → IsNamePart b name
  named-part name named le = record { named = named; order = omega (arith, name-le named); within = le }

  characters-part : {stop : ℕ} {text : List ℕ} (part : Part) → IsCharacters b stop part.from part.to text → part.to ≤ length b → IsCharactersPart b part
  characters-part {stop} {text} part chars le = record { characters = (stop, text, chars); order = characters-le chars; within = le }

  attributes-parts : {i j : ℕ} {attributes : List (Part × Part)} → AreAttributes b i j attributes → j ≤ length b → All (IsAttributeThere b) attributes
  attributes-parts AreAttributes.none le = All-nil (IsAttributeThere b)
  attributes-parts (AreAttributes.more {j = j} {k = k} {attributes = attributes} {name = name} {value = value} before is) le =
      let value_le : value.to ≤ length b = omega (arith, le, is.whole) in
      let name_le : name.to ≤ length b = omega (arith, value_le, each-le is.before_equals, each-le is.after_equals, characters-le is.characters, is.value_from) in
      let start_le : j ≤ length b = omega (arith, name_le, each-le is.white, name-le is.named) in
      All-push (IsAttributeThere b) attributes (name, value) (attributes-parts before start_le) (named-part name is.named name_le, characters-part value is.characters value_le)

  tag-parts : {i j : ℕ} {name : Part} {attributes : List (Part × Part)} (children : List Node) → IsStartTag b i name attributes j → j ≤ length b → All (HasParts b) children → HasParts b (node.Element i name attributes children)
  tag-parts {i} {j} {name} {attributes} children tag le inner =
      let listed_le : tag.end ≤ length b = omega (arith, le, each-le tag.white) in
      let name_le : name.to ≤ length b = omega (arith, listed_le, (attributes-within tag.listed).0) in
      let at : i < length b = omega (arith, name_le, tag.name_from, name-le tag.named) in
      made b _ (Node-F.Element i name attributes children) (element-out i name attributes children) (at, named-part name tag.named name_le, attributes-parts tag.listed listed_le) inner

  run-parts : {stop j k : ℕ} {text : List ℕ} → IsCharacters b stop j k text → k ≤ length b → All (HasParts b) (run_of j k)
  run-parts {j = j} {k = k} chars le =
      cond_both (j == k) _ _ (λ nodes. All (HasParts b) nodes) (λ _. All-nil (HasParts b))
      (λ _. All-push (HasParts b) [] (node.Chars (part_of j k)) (All-nil (HasParts b)) (made b _ (Node-F.Chars (part_of j k)) (chars-out (part_of j k)) (characters-part (part_of j k) chars le) (All-nil (HasParts b))))

  mutual
    element-parts : {most outer i j : ℕ} {child : Node} → IsElement b most outer i j child → j ≤ length b → HasParts b child
    element-parts (IsElement.empty deep tag slash greater) le = tag-parts [] tag (omega (arith, le)) (All-nil (HasParts b))
    element-parts (IsElement.filled {j = j} {k = k} {m = m} {children = children} deep tag greater pieces chars end) le =
        let m_le : m ≤ length b = omega (arith, le, end-le end) in
        let k_le : k ≤ length b = omega (arith, m_le, characters-le chars) in
        tag-parts (children ++ run_of k m) tag (omega (arith, k_le, pieces-le pieces)) (All-append (HasParts b) children (run_of k m) (pieces-parts pieces k_le) (run-parts chars m_le))

    pieces-parts : {most outer i j : ℕ} {nodes : List Node} → ArePieces b most outer i j nodes → j ≤ length b → All (HasParts b) nodes
    pieces-parts ArePieces.none le = All-nil (HasParts b)
    pieces-parts (ArePieces.comment {j = j} {k = k} {nodes = nodes} pieces chars c) le =
        let k_le : k ≤ length b = omega (arith, le, comment-le c) in
        All-append (HasParts b) nodes (run_of j k) (pieces-parts pieces (omega (arith, k_le, characters-le chars))) (run-parts chars k_le)
    pieces-parts (ArePieces.element {j = j} {k = k} {nodes = nodes} {child = child} pieces chars element) le =
        let k_le : k ≤ length b = omega (arith, le, element-le element) in
        All-push (HasParts b) (nodes ++ run_of j k) child (All-append (HasParts b) nodes (run_of j k) (pieces-parts pieces (omega (arith, k_le, characters-le chars))) (run-parts chars k_le)) (element-parts element le)

pub parts-are-there : PartsAreThere
parts-are-there b most root spells = element-parts spells.element (blank-le spells.blank)
