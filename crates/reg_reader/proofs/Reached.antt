-- What was read where the reader stands in a state: what the bytes before a place are, by the definitions of markup.
use Rattle.std.proofs.Common.{◌≡◌, ℕ, ◌+◌, ◌<◌, ◌≤◌, ◌⊎◌, true, false, List, [], ◌∷◌, ◌++◌, length, Option, Some, None}
use Rattle.std.specs.Prelude.{slice_index, slice_range}
use Rattle.vkb_bytes.specs.Bytes.{is_white}
use Rattle.reg_reader.specs.Markup.{run_of, is_taken, IsWhite, IsName, IsCommentEnd, IsDeclarationEnd, IsBlank, IsCharacters, AreAttributes, IsStartTag, IsCopy, IsElement, ArePieces, IsHead}
use Rattle.reg_reader.specs.References.{progress_of}
use Rattle.reg_reader.specs.Machine.{State, Move, Next, Bad, Deep}
use Rattle.reg_reader.specs.declared.markup.Part.{Part}
use Rattle.reg_reader.specs.declared.markup.Node.{Node}
use Rattle.reg_reader.specs.declared.phase.Phase.{Phase}
use Rattle.reg_reader.specs.declared.phase.Phase.TheVariants as phase
use Rattle.reg_reader.specs.declared.reader.Open.{Open}
use Rattle.reg_reader.specs.declared.reference.Progress.TheVariants as progress

abbrev pub open_of : ℕ → Part → List (Part × Part) → List Node → Open
open_of at name attributes children = record { at = at; name = name; attributes = attributes; children = children }

-- all before a place, at which a comment, an element or an end tag may begin
pub data Upto (b : List ℕ) (most : ℕ) : List Open → Option Node → ℕ → Type 0 where
  before : {n : ℕ} → IsHead b n → Upto b most [] None n
  after : {i j n : ℕ} {root : Node} → IsHead b i → IsElement b most 0 i j root → IsBlank b j n → Upto b most [] (Some root) n
  inside : {at j k n : ℕ} {name : Part} {attributes : List (Part × Part)} {children : List Node} {text : List ℕ} {rest : List Open} → length rest < most → IsStartTag b at name attributes j → slice_index b j ≡ 62 → ArePieces b most (length rest + 1) (j + 1) k children → IsCharacters b 60 k n text → Upto b most rest None at → Upto b most (open_of at name attributes (children ++ run_of k n) ∷ rest) None n

-- characters up to a place, in a reference or not
pub data IsRun (b : List ℕ) (stop from : ℕ) : Option ℕ → ℕ → Type 0 where
  whole : {n : ℕ} {text : List ℕ} → IsCharacters b stop from n text → IsRun b stop from None n
  partial : {place n : ℕ} {text : List ℕ} → IsCharacters b stop from place text → place < n → progress_of (slice_range b place n) ≡ progress.Partial → IsRun b stop from (Some place) n

-- the start tag of the innermost open element up to the end of an attribute
pub record IsTagged (b : List ℕ) (most : ℕ) (top : Open) (rest : List Open) (n : ℕ) : Type 0 where
  pub deep : length rest < most
  pub less : slice_index b top.at ≡ 60
  pub name_from : top.name.from ≡ top.at + 1
  pub named : IsName b top.name.from top.name.to
  pub listed : AreAttributes b top.name.to n top.attributes
  pub childless : top.children ≡ []
  pub outer : Upto b most rest None top.at

-- the name of an attribute
pub record IsAttributeName (b : List ℕ) (before : List (Part × Part)) (i : ℕ) (name : Part) : Type 0 where
  pub white : IsWhite b i name.from
  pub some : i < name.from
  pub named : IsName b name.from name.to
  pub new : is_taken b before name.from name.to ≡ false

-- a comment up to a place
pub record IsCommentFront (b : List ℕ) (from n : ℕ) : Type 0 where
  pub behind : from + 2 ≤ n
  pub less : slice_index b from ≡ 60
  pub mark : slice_index b (from + 1) ≡ 33
  pub first : from + 2 < n → slice_index b (from + 2) ≡ 45
  pub second : from + 3 < n → slice_index b (from + 3) ≡ 45
  pub nearest : (k : ℕ) → from + 4 ≤ k → k + 2 < n → IsCommentEnd b k → ⊥

-- the declaration up to a place
pub record IsDeclarationFront (b : List ℕ) (n : ℕ) : Type 0 where
  pub behind : 2 ≤ n
  pub less : slice_index b 0 ≡ 60
  pub mark : slice_index b 1 ≡ 63
  pub x : 2 < n → slice_index b 2 ≡ 120
  pub m : 3 < n → slice_index b 3 ≡ 109
  pub l : 4 < n → slice_index b 4 ≡ 108
  pub white : 5 < n → is_white (slice_index b 5) ≡ true
  pub nearest : (k : ℕ) → 6 ≤ k → k + 1 < n → IsDeclarationEnd b k → ⊥

pub data Reached (b : List ℕ) (most : ℕ) : Phase → List Open → Option Node → ℕ → Type 0 where
  outside : {n : ℕ} {root : Option Node} → Upto b most [] root n → Reached b most phase.Outside [] root n
  text : {n at j from : ℕ} {reference : Option ℕ} {name : Part} {attributes : List (Part × Part)} {children : List Node} {rest : List Open} → length rest < most → IsStartTag b at name attributes j → slice_index b j ≡ 62 → ArePieces b most (length rest + 1) (j + 1) from children → IsRun b 60 from reference n → Upto b most rest None at → Reached b most (phase.Text (record { from = from; reference = reference })) (open_of at name attributes children ∷ rest) None n
  markup : {n : ℕ} {opens : List Open} {root : Option Node} → Upto b most opens root n → slice_index b n ≡ 60 → Reached b most phase.Markup opens root (n + 1)
  comment : {n from : ℕ} {opens : List Open} {root : Option Node} → Upto b most opens root from → IsCommentFront b from n → Reached b most (phase.Comment from) opens root n
  declaration : {n : ℕ} → IsDeclarationFront b n → Reached b most phase.Declaration [] None n
  name : {n at : ℕ} {opens : List Open} → length opens < most → slice_index b at ≡ 60 → IsName b (at + 1) n → Upto b most opens None at → Reached b most (phase.Name (at + 1)) opens None n
  tag : {n l : ℕ} {top : Open} {rest : List Open} → IsTagged b most top rest l → IsWhite b l n → l < n → Reached b most phase.Tag (top ∷ rest) None n
  attribute : {n l from : ℕ} {top : Open} {rest : List Open} → IsTagged b most top rest l → IsWhite b l from → l < from → IsName b from n → Reached b most (phase.Attribute from) (top ∷ rest) None n
  equals : {n l : ℕ} {name : Part} {top : Open} {rest : List Open} → IsTagged b most top rest l → IsAttributeName b top.attributes l name → IsWhite b name.to n → Reached b most (phase.Equals name) (top ∷ rest) None n
  quote : {n l e : ℕ} {name : Part} {top : Open} {rest : List Open} → IsTagged b most top rest l → IsAttributeName b top.attributes l name → IsWhite b name.to e → slice_index b e ≡ 61 → IsWhite b (e + 1) n → Reached b most (phase.Quote name) (top ∷ rest) None n
  value : {n l e q from mark : ℕ} {reference : Option ℕ} {name : Part} {top : Open} {rest : List Open} → IsTagged b most top rest l → IsAttributeName b top.attributes l name → IsWhite b name.to e → slice_index b e ≡ 61 → IsWhite b (e + 1) q → (mark ≡ 34) ⊎ (mark ≡ 39) → slice_index b q ≡ mark → from ≡ q + 1 → IsRun b mark from reference n → Reached b most (phase.Value name mark (record { from = from; reference = reference })) (top ∷ rest) None n
  value_end : {n : ℕ} {top : Open} {rest : List Open} → IsTagged b most top rest n → Reached b most phase.ValueEnd (top ∷ rest) None n
  slash : {n l : ℕ} {top : Open} {rest : List Open} → IsTagged b most top rest l → IsWhite b l n → slice_index b n ≡ 47 → Reached b most phase.Slash (top ∷ rest) None (n + 1)
  end_name : {n k to : ℕ} {top : Open} {rest : List Open} → Upto b most (top ∷ rest) None k → slice_index b k ≡ 60 → slice_index b (k + 1) ≡ 47 → IsCopy b top.name.from to (k + 2) n → to ≤ top.name.to → Reached b most (phase.EndName (k + 2)) (top ∷ rest) None n
  end_white : {n k l : ℕ} {top : Open} {rest : List Open} → Upto b most (top ∷ rest) None k → slice_index b k ≡ 60 → slice_index b (k + 1) ≡ 47 → IsCopy b top.name.from top.name.to (k + 2) l → IsWhite b l n → Reached b most phase.EndWhite (top ∷ rest) None n

abbrev pub IsReached : List ℕ → ℕ → State → ℕ → Type 0
IsReached b most s n = Reached b most s.phase s.opens s.root n

-- a move leads to what was read
abbrev pub Leads : List ℕ → ℕ → Move → ℕ → Type 0
Leads b most (Next s) n = IsReached b most s n
Leads b most Bad n = Unit {0}
Leads b most Deep n = Unit {0}
