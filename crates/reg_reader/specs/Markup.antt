-- The markup of the Vulkan API registry (the registry manual, `registry.html`), in the profile that this project reads:
-- elements, attributes, characters with references, and comments. All is said of places in one text.
use Rattle.std.specs.Prelude.{◌≡◌, ℕ, ◌+◌, ◌<◌, ◌≤◌, ◌⊎◌, Bool, true, false, ◌||◌, ◌==◌, List, [], ◌∷◌, ◌++◌, length, take, slice_index, slice_index_or, slice_range, codes, if◌then◌else◌, All}
use Rattle.std.specs.List.{list_all, list_any}
use Rattle.std.specs.Str.{bytes_eq}
use Rattle.vkb_bytes.specs.Bytes.{is_letter, is_digit, is_white, is_word_byte}
use Rattle.vkb_bytes.specs.Numbers.{is_digit_in, number_in}
use Rattle.reg_reader.specs.declared.markup.Part.{Part}
use Rattle.reg_reader.specs.declared.markup.Node.{Node}
use Rattle.reg_reader.specs.declared.markup.Node.TheOpen.{Node-F}
use Rattle.reg_reader.specs.declared.markup.Node.TheViews.{out-Node}
use Rattle.reg_reader.specs.declared.markup.Node.TheVariants as node

abbrev pub is_name_start : ℕ → Bool
is_name_start byte = is_letter byte || byte == 95

-- a letter, a digit, `_`, `-`, `.` or `:`
abbrev pub is_name_byte : ℕ → Bool
is_name_byte byte = is_word_byte byte || byte == 45 || byte == 46 || byte == 58

abbrev pub part_of : ℕ → ℕ → Part
part_of from to = record { from = from; to = to }

-- each byte of a part of the text passes a test
pub data Each (b : List ℕ) (passes : ℕ → Bool) : ℕ → ℕ → Type 0 where
  none : {i : ℕ} → Each b passes i i
  more : {i j : ℕ} → Each b passes i j → passes (slice_index b j) ≡ true → Each b passes i (j + 1)

abbrev pub IsWhite : List ℕ → ℕ → ℕ → Type 0
IsWhite b = Each b is_white

-- a letter or `_`, and then bytes of names
pub record IsName (b : List ℕ) (i j : ℕ) : Type 0 where
  pub start : is_name_start (slice_index b i) ≡ true
  pub rest : Each b is_name_byte (i + 1) j

-- `-->` stands at a place
pub record IsCommentEnd (b : List ℕ) (k : ℕ) : Type 0 where
  pub first : slice_index b k ≡ 45
  pub second : slice_index b (k + 1) ≡ 45
  pub third : slice_index b (k + 2) ≡ 62

-- `<!--`, and all up to the first `-->` behind it
pub record IsComment (b : List ℕ) (i j : ℕ) : Type 0 where
  pub less : slice_index b i ≡ 60
  pub mark : slice_index b (i + 1) ≡ 33
  pub first : slice_index b (i + 2) ≡ 45
  pub second : slice_index b (i + 3) ≡ 45
  pub end : ℕ
  pub behind : i + 4 ≤ end
  pub ends : IsCommentEnd b end
  pub nearest : (k : ℕ) → i + 4 ≤ k → k < end → IsCommentEnd b k → ⊥
  pub whole : j ≡ end + 3

-- `?>` stands at a place
pub record IsDeclarationEnd (b : List ℕ) (k : ℕ) : Type 0 where
  pub first : slice_index b k ≡ 63
  pub second : slice_index b (k + 1) ≡ 62

-- the text begins with `<?xml`, a white byte, and all up to the first `?>` behind it
pub record IsDeclaration (b : List ℕ) (j : ℕ) : Type 0 where
  pub less : slice_index b 0 ≡ 60
  pub mark : slice_index b 1 ≡ 63
  pub x : slice_index b 2 ≡ 120
  pub m : slice_index b 3 ≡ 109
  pub l : slice_index b 4 ≡ 108
  pub white : is_white (slice_index b 5) ≡ true
  pub end : ℕ
  pub behind : 6 ≤ end
  pub ends : IsDeclarationEnd b end
  pub nearest : (k : ℕ) → 6 ≤ k → k < end → IsDeclarationEnd b k → ⊥
  pub whole : j ≡ end + 2

-- white bytes and comments
pub data IsBlank (b : List ℕ) : ℕ → ℕ → Type 0 where
  none : {i : ℕ} → IsBlank b i i
  white : {i j : ℕ} → IsBlank b i j → is_white (slice_index b j) ≡ true → IsBlank b i (j + 1)
  comment : {i j k : ℕ} → IsBlank b i j → IsComment b j k → IsBlank b i k

-- a reference, and the byte that it stands for
pub data IsReference : List ℕ → ℕ → Type 0 where
  less : IsReference (codes "&lt;") 60
  greater : IsReference (codes "&gt;") 62
  ampersand : IsReference (codes "&amp;") 38
  quote : IsReference (codes "&quot;") 34
  apostrophe : IsReference (codes "&apos;") 39
  decimal : (digits : List ℕ) → list_all is_digit digits ≡ true → 1 ≤ length digits → length digits ≤ 3 → 1 ≤ number_in 10 digits → number_in 10 digits ≤ 127 → IsReference (38 ∷ 35 ∷ (digits ++ 59 ∷ [])) (number_in 10 digits)
  hexadecimal : (digits : List ℕ) → list_all (is_digit_in 16) digits ≡ true → 1 ≤ length digits → length digits ≤ 2 → 1 ≤ number_in 16 digits → number_in 16 digits ≤ 127 → IsReference (38 ∷ 35 ∷ 120 ∷ (digits ++ 59 ∷ [])) (number_in 16 digits)

-- Characters, and the bytes that they stand for: bytes other than `<`, than one that stops them and than `&`, and
-- references.
pub data IsCharacters (b : List ℕ) (stop : ℕ) : ℕ → ℕ → List ℕ → Type 0 where
  none : {i : ℕ} → IsCharacters b stop i i []
  plain : {i j : ℕ} {text : List ℕ} → IsCharacters b stop i j text → j < length b → (slice_index b j ≡ 60 → ⊥) → (slice_index b j ≡ stop → ⊥) → (slice_index b j ≡ 38 → ⊥) → IsCharacters b stop i (j + 1) (text ++ slice_index b j ∷ [])
  reference : {i j k n : ℕ} {text : List ℕ} → IsCharacters b stop i j text → k ≤ length b → IsReference (slice_range b j k) n → IsCharacters b stop i k (text ++ n ∷ [])

-- a part of the text has characters, as a value or between pieces of markup
abbrev pub HasCharacters : List ℕ → Part → Type 0
HasCharacters b part = (stop : ℕ) × (text : List ℕ) × IsCharacters b stop part.from part.to text

-- the bytes are what the characters of a part stand for
abbrev pub AreCharactersOf : List ℕ → Part → List ℕ → Type 0
AreCharactersOf b part bytes = (stop : ℕ) (text : List ℕ) → IsCharacters b stop part.from part.to text → bytes ≡ text

-- whether one of the attributes has the name that stands in a part of the text
abbrev pub is_taken : List ℕ → List (Part × Part) → ℕ → ℕ → Bool
is_taken b attributes from to = list_any (λ attribute. bytes_eq (slice_range b attribute.0.from attribute.0.to) (slice_range b from to)) attributes

-- White space, a name that no attribute before it has, `=`, and a value between two quotes of one kind; white space may
-- stand round the `=`.
pub record IsAttribute (b : List ℕ) (before : List (Part × Part)) (i : ℕ) (name value : Part) (j : ℕ) : Type 0 where
  pub white : IsWhite b i name.from
  pub some : i < name.from
  pub named : IsName b name.from name.to
  pub new : is_taken b before name.from name.to ≡ false
  pub equals : ℕ
  pub before_equals : IsWhite b name.to equals
  pub equals_is : slice_index b equals ≡ 61
  pub quote : ℕ
  pub after_equals : IsWhite b (equals + 1) quote
  pub quote_is : (slice_index b quote ≡ 34) ⊎ (slice_index b quote ≡ 39)
  pub value_from : value.from ≡ quote + 1
  pub text : List ℕ
  pub characters : IsCharacters b (slice_index b quote) value.from value.to text
  pub closed : slice_index b value.to ≡ slice_index b quote
  pub whole : j ≡ value.to + 1

-- attributes, one after another
pub data AreAttributes (b : List ℕ) : ℕ → ℕ → List (Part × Part) → Type 0 where
  none : {i : ℕ} → AreAttributes b i i []
  more : {i j k : ℕ} {attributes : List (Part × Part)} {name value : Part} → AreAttributes b i j attributes → IsAttribute b attributes j name value k → AreAttributes b i k (attributes ++ (name, value) ∷ [])

-- a start tag up to the `>` or `/>` that ends it: `<`, a name, attributes, and white space
pub record IsStartTag (b : List ℕ) (i : ℕ) (name : Part) (attributes : List (Part × Part)) (j : ℕ) : Type 0 where
  pub less : slice_index b i ≡ 60
  pub name_from : name.from ≡ i + 1
  pub named : IsName b name.from name.to
  pub end : ℕ
  pub listed : AreAttributes b name.to end attributes
  pub white : IsWhite b end j

-- the bytes of a part of the text are those of another, one after another
pub data IsCopy (b : List ℕ) : ℕ → ℕ → ℕ → ℕ → Type 0 where
  none : {from i : ℕ} → IsCopy b from from i i
  more : {from to i j : ℕ} → IsCopy b from to i j → slice_index b j ≡ slice_index b to → IsCopy b from (to + 1) i (j + 1)

-- `</`, the name of the start tag, white space and `>`
pub record IsEndTag (b : List ℕ) (name : Part) (i j : ℕ) : Type 0 where
  pub less : slice_index b i ≡ 60
  pub slash : slice_index b (i + 1) ≡ 47
  pub named_to : ℕ
  pub named : IsCopy b name.from name.to (i + 2) named_to
  pub greater : ℕ
  pub white : IsWhite b named_to greater
  pub greater_is : slice_index b greater ≡ 62
  pub whole : j ≡ greater + 1

-- the node of the characters in a part of the text; no characters are none
abbrev pub run_of : ℕ → ℕ → List Node
run_of from to = if from == to then [] else node.Chars (part_of from to) ∷ []

mutual
  -- The element from a place to another, which lies in `outer` others; `most` elements nest at most.
  pub data IsElement (b : List ℕ) (most : ℕ) : ℕ → ℕ → ℕ → Node → Type 0 where
    empty : {outer i j : ℕ} {name : Part} {attributes : List (Part × Part)} → outer < most → IsStartTag b i name attributes j → slice_index b j ≡ 47 → slice_index b (j + 1) ≡ 62 → IsElement b most outer i (j + 2) (node.Element i name attributes [])
    filled : {outer i j k m n : ℕ} {name : Part} {attributes : List (Part × Part)} {children : List Node} {text : List ℕ} → outer < most → IsStartTag b i name attributes j → slice_index b j ≡ 62 → ArePieces b most (outer + 1) (j + 1) k children → IsCharacters b 60 k m text → IsEndTag b name m n → IsElement b most outer i n (node.Element i name attributes (children ++ run_of k m))

  -- what stands in an element up to the end of a comment or of a child: each of them, with the characters before it
  pub data ArePieces (b : List ℕ) (most : ℕ) : ℕ → ℕ → ℕ → List Node → Type 0 where
    none : {outer i : ℕ} → ArePieces b most outer i i []
    comment : {outer i j k m : ℕ} {nodes : List Node} {text : List ℕ} → ArePieces b most outer i j nodes → IsCharacters b 60 j k text → IsComment b k m → ArePieces b most outer i m (nodes ++ run_of j k)
    element : {outer i j k m : ℕ} {nodes : List Node} {text : List ℕ} {child : Node} → ArePieces b most outer i j nodes → IsCharacters b 60 j k text → IsElement b most outer k m child → ArePieces b most outer i m ((nodes ++ run_of j k) ++ child ∷ [])

-- what may stand before the root: a declaration, white space and comments
pub record IsHead (b : List ℕ) (i : ℕ) : Type 0 where
  pub end : ℕ
  pub declared : (end ≡ 0) ⊎ IsDeclaration b end
  pub blank : IsBlank b end i

-- The text spells the tree: a declaration or none, the root, with white space and comments round it, and nothing else.
-- Elements nest at most so deep.
pub record Spells (most : ℕ) (root : Node) (b : List ℕ) : Type 0 where
  pub from : ℕ
  pub head : IsHead b from
  pub to : ℕ
  pub element : IsElement b most 0 from to root
  pub blank : IsBlank b to (length b)

-- some tree whose elements nest at most so deep begins so
abbrev pub IsFrontWithin : ℕ → List ℕ → Type 0
IsFrontWithin most text = (rest : List ℕ) × (root : Node) × Spells most root (text ++ rest)

-- some tree of any depth begins so
abbrev pub IsFront : List ℕ → Type 0
IsFront text = (most : ℕ) × IsFrontWithin most text

-- no tree is spelled so
abbrev pub IsNoMarkup : List ℕ → Type 0
IsNoMarkup b = (most : ℕ) (root : Node) → Spells most root b → ⊥

-- Where bytes that spell no tree stop: those before the place begin some tree, whose elements nest at most 32 deep, and
-- they with one byte more begin none of any depth. What a front begins with is a front, so no longer part is one.
pub record IsStop (b : List ℕ) (at : ℕ) : Type 0 where
  pub within : at ≤ length b
  pub front : IsFrontWithin 32 (take at b)
  pub last : at < length b → IsFront (take (at + 1) b) → ⊥
  pub none : IsNoMarkup b

-- A 33rd nested element begins at the place: the bytes up to and with its `<` begin a tree whose elements nest at most
-- 32 deep, and they with the first byte of its name begin trees, but deeper ones alone.
pub record IsTooDeep (b : List ℕ) (at : ℕ) : Type 0 where
  pub within : at + 2 ≤ length b
  pub shallow : IsFrontWithin 32 (take (at + 1) b)
  pub front : IsFront (take (at + 2) b)
  pub deep : IsFrontWithin 32 (take (at + 2) b) → ⊥

-- one text spells one tree
abbrev pub OneTree : Type 0
OneTree = (b : List ℕ) (most other : ℕ) (root tree : Node) → Spells most root b → Spells other tree b → root ≡ tree

-- a part of the text is a name
pub record IsNamePart (b : List ℕ) (part : Part) : Type 0 where
  pub named : IsName b part.from part.to
  pub order : part.from ≤ part.to
  pub within : part.to ≤ length b

-- a part of the text has characters
pub record IsCharactersPart (b : List ℕ) (part : Part) : Type 0 where
  pub characters : HasCharacters b part
  pub order : part.from ≤ part.to
  pub within : part.to ≤ length b

-- the name and the value of an attribute
abbrev pub IsAttributeThere : List ℕ → Part × Part → Type 0
IsAttributeThere b attribute = IsNamePart b attribute.0 × IsCharactersPart b attribute.1

-- a node lies in the text, whatever its children are
abbrev pub IsNodeThere : List ℕ → Node-F Node → Type 0
IsNodeThere b (Node-F.Element at name attributes children) = (at < length b) × IsNamePart b name × All (IsAttributeThere b) attributes
IsNodeThere b (Node-F.Chars part) = IsCharactersPart b part

abbrev pub children_of : Node-F Node → List Node
children_of (Node-F.Element at name attributes children) = children
children_of (Node-F.Chars part) = []

-- All parts of a tree lie in the text: the names are names there, and the values and the characters between pieces of
-- markup have characters. The second field is `All (HasParts b)` of the children, written out.
pub data HasParts (b : List ℕ) : Node → Type 0 where
  parts : {tree : Node} → IsNodeThere b (out-Node tree) → ((k : ℕ) (other : Node) → k < length (children_of (out-Node tree)) → HasParts b (slice_index_or (children_of (out-Node tree)) k other)) → HasParts b tree

-- a tree that is spelled has its parts in the text
abbrev pub PartsAreThere : Type 0
PartsAreThere = (b : List ℕ) (most : ℕ) (root : Node) → Spells most root b → HasParts b root
