-- What the nodes of a tree are as plain data, by the bytes that spell it.
use Rattle.std.specs.Prelude.{◌≡◌, ℕ, ◌-◌, ◌<◌, ◌^◌, List, [], ◌∷◌, length, map, slice_range, All}
use Rattle.reg_reader.specs.Markup.{Spells, IsNamePart, IsAttributeThere, HasParts}
use Rattle.reg_reader.specs.Characters.{undone}
use Rattle.reg_reader.specs.Views.{Content, Element, elements_in}
use Rattle.reg_reader.specs.declared.markup.Part.{Part}
use Rattle.reg_reader.specs.declared.markup.Node.{Node}
use Rattle.reg_reader.specs.declared.markup.Node.TheOpen.{Node-F}
use Rattle.reg_reader.specs.declared.markup.Node.TheFolds.{fold-Node}

abbrev pub bytes_of : List ℕ → Part → List ℕ
bytes_of b part = slice_range b part.from part.to

-- what the characters of a part stand for
abbrev pub characters_of : List ℕ → Part → List ℕ
characters_of b part = (undone b part.from (part.to - part.from)).1

abbrev pub attributes_of : List ℕ → List (Part × Part) → List (List ℕ × List ℕ)
attributes_of b attributes = map (λ attribute. (bytes_of b attribute.0, characters_of b attribute.1)) attributes

-- one after another, each before what the others make
abbrev pub joined : List (Content → Content) → Content
joined [] = Content.none
joined (piece ∷ pieces) = piece (joined pieces)

-- one node, before what stands behind it
abbrev pub shown_node : List ℕ → Node-F (Content → Content) → Content → Content
shown_node b (Node-F.Element at name attributes children) after = Content.child at (bytes_of b name) (attributes_of b attributes) (joined children) after
shown_node b (Node-F.Chars part) after = Content.chars (characters_of b part) after

-- nodes, one after another, as contents
abbrev pub content_of : List ℕ → List Node → Content
content_of b nodes = joined (map (fold-Node (Content → Content) (shown_node b)) nodes)

-- the node is this element, by the bytes
abbrev pub IsElementOf : List ℕ → Node → Element → Type 0
IsElementOf b node element = elements_in (content_of b (node ∷ [])) ≡ element ∷ []

-- the text spells a tree whose root is this element, and elements nest at most 32 deep in it
abbrev pub SpellsElement : List ℕ → Element → Type 0
SpellsElement b element = (root : Node) × Spells 32 root b × IsElementOf b root element

-- the parts of nodes lie in bytes of which `u32` counts the places
pub record AreShown (b : List ℕ) (nodes : List Node) : Type 0 where
  pub parts : All (HasParts b) nodes
  pub small : length b < 2 ^ 32

-- the parts of an element lie in bytes of which `u32` counts the places
pub record IsShown (b : List ℕ) (name : Part) (attributes : List (Part × Part)) (children : List Node) : Type 0 where
  pub named : IsNamePart b name
  pub valued : All (IsAttributeThere b) attributes
  pub inner : AreShown b children
