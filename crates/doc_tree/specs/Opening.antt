-- What is kept of a file that was read, and why one wasn't, for private contracts alone. No public contract names it.
use Rattle.std.specs.Prelude.{◌≡◌, ℕ, ◌+◌, ◌<◌, ◌≤◌, List, Option, Some, None, IfSome, Result, Ok, Err, Vec, length, map, slice_get, All, ⊤}
use Rattle.std.specs.List.{AllZip, range_with_len}
use Rattle.std.specs.declared.alloc.Global.{Global}
use Rattle.vkb_outside.specs.Shelf.{Files}
use Rattle.vkb_text.specs.Buffer.{Buffer}
use Rattle.vkb_text.specs.Lines.{lines_of}
use Rattle.vkb_text.specs.Spans.{IsWithin as IsSpanWithin, slice_at}
use Rattle.doc_cond.specs.Lines.{IsBadCondition, IsKind, bare}
use Rattle.doc_cond.specs.Nesting.{ArePairs, IsFirstFault as IsFirstNestingFault}
use Rattle.doc_cond.specs.declared.CondFault.{CondFault}
use Rattle.doc_cond.specs.declared.CondFault.TheVariants as cond
use Rattle.doc_cond.specs.declared.LineKind.{LineKind}
use Rattle.doc_tree.specs.declared.Document.{Document}
use Rattle.doc_tree.specs.declared.fault.DocFault.{DocFault}
use Rattle.doc_tree.specs.declared.fault.DocFault.TheVariants as doc
use Rattle.doc_tree.specs.declared.source.SourceFile.{SourceFile}
use Rattle.doc_tree.specs.Progress.{IsDraft}
use Rattle.doc_tree.specs.Sources.{IsFirstBad, IsReading, Lines, Misnested, Misspelled, Reading, TooNested, most_bytes}

-- what is answered for the bytes under a name, where these are found
abbrev pub Fetches : List ℕ → Option (List ℕ) → Result (Vec ℕ Global) DocFault → Type 0
Fetches name found (Ok bytes) = found ≡ Some bytes.items
Fetches name found (Err (doc.Missing told)) = (told ≡ name) × (found ≡ None)
Fetches name found (Err (doc.TooLarge told)) = (told ≡ name) × ((bytes : List ℕ) × (found ≡ Some bytes) × (most_bytes < length bytes))
Fetches name found (Err doc.ReadFault) = ⊤
Fetches name found (Err doc.Memory) = ⊤
Fetches name found (Err _) = ⊥

-- what is answered for a name on a shelf, by what is found there
pub record IsFetched (told : Option Files) (name : List ℕ) (result : Result (Vec ℕ Global) DocFault) : Type 0 where
  pub found : Option (List ℕ)
  pub told_is : IfSome told (λ holds. holds name ≡ found)
  pub fetches : Fetches name found result

-- the buffer has room for so many bytes
abbrev pub Fits : Buffer → List ℕ → Type 0
Fits text bytes = length text.bytes + length bytes ≤ text.most

-- the lines of a file lie in the buffer, and each opener has its closer
pub record IsSourceFile (text : List ℕ) (bytes : List ℕ) (file : ℕ) (source : SourceFile) : Type 0 where
  pub lines : map (λ line. slice_at text line.span) source.lines ≡ lines_of bytes
  pub file_is : All (λ line. line.file ≡ file) source.lines
  pub numbers : map (λ line. line.number) source.lines ≡ range_with_len 1 (length source.lines)
  pub spans : All (λ line. IsSpanWithin text line.span) source.lines
  pub kinds : List LineKind
  pub kinds_are : AllZip IsKind (lines_of bytes) kinds
  pub pairs_are : ArePairs kinds source.pairs
  pub only : (other : Reading) → IsReading (lines_of bytes) other → other ≡ Lines kinds source.pairs

-- the line is of that kind and no other
pub record IsSure (line : List ℕ) (kind : LineKind) : Type 0 where
  pub is : IsKind line kind
  pub only : (other : LineKind) → IsKind line other → kind ≡ other

-- what stands in the place of a line's kind
abbrev pub IsKindFault : List ℕ → List ℕ → ℕ → DocFault → Type 0
IsKindFault name line number (doc.BadCondition told at) = (told ≡ name) × (at ≡ number) × IsBadCondition (bare line)
IsKindFault name line number doc.Memory = ⊤
IsKindFault name line number _ = ⊥

-- what stands in the place of the kinds of lines
abbrev pub IsSpellingFault : List ℕ → List (List ℕ) → DocFault → Type 0
IsSpellingFault name lines (doc.BadCondition told at) = (told ≡ name) × IsFirstBad lines at
IsSpellingFault name lines doc.Memory = ⊤
IsSpellingFault name lines _ = ⊥

-- the first fault in the nesting of lines of these kinds is this one, at the line of a number from 1
abbrev pub IsNumberedFault : List LineKind → (ℕ → CondFault) → ℕ → Type 0
IsNumberedFault kinds fault number = (place : ℕ) × (number ≡ place + 1) × IsFirstNestingFault kinds (fault place)

-- what stands in the place of openers and closers
abbrev pub IsPairsFault : List ℕ → List LineKind → DocFault → Type 0
IsPairsFault name kinds (doc.Unbalanced told at) = (told ≡ name) × IsNumberedFault kinds cond.Unbalanced at
IsPairsFault name kinds (doc.CondDepth told at) = (told ≡ name) × IsNumberedFault kinds cond.CondDepth at
IsPairsFault name kinds doc.Memory = ⊤
IsPairsFault name kinds _ = ⊥

-- these lines come to nothing else
abbrev pub IsOnlyReading : List (List ℕ) → Reading → Type 0
IsOnlyReading lines reading = (other : Reading) → IsReading lines other → other ≡ reading

-- why the bytes of a file aren't put into the buffer and read
abbrev pub IsSourceFault : Buffer → List ℕ → List ℕ → DocFault → Type 0
IsSourceFault text name bytes (doc.DocTooLong told at) = (told ≡ name) × (at ≡ 0) × (text.most < length text.bytes + length bytes)
IsSourceFault text name bytes (doc.BadCondition told at) = (told ≡ name) × Fits text bytes × IsOnlyReading (lines_of bytes) (Misspelled at)
IsSourceFault text name bytes (doc.Unbalanced told at) = (told ≡ name) × Fits text bytes × IsOnlyReading (lines_of bytes) (Misnested at)
IsSourceFault text name bytes (doc.CondDepth told at) = (told ≡ name) × Fits text bytes × IsOnlyReading (lines_of bytes) (TooNested at)
IsSourceFault text name bytes doc.Memory = ⊤
IsSourceFault text name bytes _ = ⊥

-- the lines of a file of a number lie in the buffer
abbrev pub AreLinesThere : List ℕ → ℕ → SourceFile → Type 0
AreLinesThere text file source = All (λ line. IsSpanWithin text line.span × (line.file ≡ file)) source.lines

-- a document so far, with the files that were opened
pub record AreThere (text : List ℕ) (d : Document) (opened : List SourceFile) : Type 0 where
  pub draft : IsDraft text d
  pub count : length opened ≡ length d.files
  pub lines_there : (file : ℕ) (source : SourceFile) → slice_get opened file ≡ Some source → AreLinesThere text file source
