-- What is true of all texts and their trees, whatever reads them.
use Rattle.std.specs.Prelude.{◌≡◌, ℕ, ◌+◌, ◌<◌, ◌≤◌, List, [], ◌∷◌, ◌++◌, length, take}
use Rattle.std.specs.List.{AllByRecursion}
use Rattle.reg_reader.specs.Markup.{Spells, IsStop, IsTooDeep, IsFront, IsFrontWithin, IsCharacters}
use Rattle.reg_reader.specs.Views.{Content, Element, element_size}
use Rattle.reg_reader.specs.Shown.{characters_of, SpellsElement}
use Rattle.reg_reader.specs.declared.markup.Node.{Node}
use Rattle.reg_reader.specs.declared.markup.Part.{Part}

-- what a text is: a tree, or one that stops at a place, or one that is too deep there
pub data Answer : Type 0 where
  tree : Node → Answer
  stop : ℕ → Answer
  deep : ℕ → Answer

abbrev pub IsAnswer : List ℕ → Answer → Type 0
IsAnswer b (Answer.tree root) = Spells 32 root b
IsAnswer b (Answer.stop at) = IsStop b at
IsAnswer b (Answer.deep at) = IsTooDeep b at

-- each text is one of the three, and at one place
abbrev pub OneAnswer : Type 0
OneAnswer = (b : List ℕ) → (answer : Answer) × IsAnswer b answer × ((other : Answer) → IsAnswer b other → other ≡ answer)

-- the bytes of a text before a place begin a tree exactly where the place isn't behind its stop
abbrev pub FrontsEndAtTheStop : Type 0
FrontsEndAtTheStop = (b : List ℕ) (at n : ℕ) → IsStop b at → n ≤ length b → (n ≤ at → IsFrontWithin 32 (take n b)) × (at < n → IsFront (take n b) → ⊥)

-- characters stand for no more bytes than they have
abbrev pub CharactersAreNoLonger : Type 0
CharactersAreNoLonger = (b : List ℕ) (stop from to : ℕ) (text : List ℕ) → IsCharacters b stop from to text → from + length text ≤ to

-- what characters stand for, as it is computed and by the rule
abbrev pub CharactersAreUndone : Type 0
CharactersAreUndone = (b : List ℕ) (stop : ℕ) (part : Part) (text : List ℕ) → IsCharacters b stop part.from part.to text → characters_of b part ≡ text

-- one text spells one element
abbrev pub OneElement : Type 0
OneElement = (b : List ℕ) (element other : Element) → SpellsElement b element → SpellsElement b other → other ≡ element

-- the places of all elements between two tags, in the order of the text
abbrev pub places_in : Content → List ℕ
places_in Content.none = []
places_in (Content.chars text after) = places_in after
places_in (Content.child place name attributes inner after) = (place ∷ places_in inner) ++ places_in after

-- none is below a number, and each is greater than those before it
abbrev pub RiseFrom : ℕ → List ℕ → Type 0
RiseFrom low [] = Unit {0}
RiseFrom low (n ∷ more) = (low ≤ n) × RiseFrom (n + 1) more

-- an element stands before all that are in it and behind it, and no two stand at one place
abbrev pub PlacesRise : Type 0
PlacesRise = (b : List ℕ) (element : Element) → SpellsElement b element → RiseFrom 0 (element.place ∷ places_in element.content)

-- no two attributes have one name
abbrev pub NamesDiffer : List (List ℕ × List ℕ) → Type 0
NamesDiffer [] = Unit {0}
NamesDiffer (attribute ∷ more) = AllByRecursion (λ other. attribute.0 ≡ other.0 → ⊥) more × NamesDiffer more

-- the attributes of each element between two tags, in the order of the text
abbrev pub tags_in : Content → List (List (List ℕ × List ℕ))
tags_in Content.none = []
tags_in (Content.chars text after) = tags_in after
tags_in (Content.child place name attributes inner after) = (attributes ∷ tags_in inner) ++ tags_in after

-- no element that is spelled, nor any in it, has two attributes of one name
abbrev pub AttributesDiffer : Type 0
AttributesDiffer = (b : List ℕ) (element : Element) → SpellsElement b element → AllByRecursion NamesDiffer (element.attributes ∷ tags_in element.content)

-- an element is no larger than the text that spells it
abbrev pub ElementsAreNoLarger : Type 0
ElementsAreNoLarger = (b : List ℕ) (element : Element) → SpellsElement b element → element_size element ≤ length b
