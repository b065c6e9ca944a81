-- What is found when a file is opened: its lines, what each of them is, and which closer closes which opener, or what is wrong.
use Rattle.std.specs.Prelude.{◌≡◌, ℕ, ◌+◌, ◌<◌, ◌≤◌, Option, Some, None, List, length, slice_get}
use Rattle.std.specs.List.{AllZip}
use Rattle.vkb_outside.specs.Shelf.{Files}
use Rattle.vkb_text.specs.Lines.{lines_of}
use Rattle.doc_cond.specs.Lines.{IsBadCondition, IsKind, bare}
use Rattle.doc_cond.specs.Nesting.{ArePairs, IsFirstFault as IsFirstNestingFault}
use Rattle.doc_cond.specs.declared.CondFault.{CondFault}
use Rattle.doc_cond.specs.declared.CondFault.TheVariants as cond
use Rattle.doc_cond.specs.declared.LineKind.{LineKind}

-- how many bytes a file may have
abbrev pub most_bytes : ℕ
most_bytes = 16777216

-- what the bytes of a file come to
pub data Reading : Type 0 where
  -- its lines are of these kinds, and these are its openers, each with its closer, as places of lines from 0
  Lines : (kinds : List LineKind) (pairs : List (ℕ × ℕ)) → Reading
  -- the line of this number, from 1, is the first that begins as a conditional and is none
  Misspelled : (number : ℕ) → Reading
  -- its openers and closers don't fit together, first at this line
  Misnested : (number : ℕ) → Reading
  -- at this line more than 64 conditionals are open
  TooNested : (number : ℕ) → Reading

-- the line at a place begins as a conditional and is none
abbrev pub IsBadAt : List (List ℕ) → ℕ → Type 0
IsBadAt lines place = (line : List ℕ) × (slice_get lines place ≡ Some line) × IsBadCondition (bare line)

-- the number, from 1, of the first line that begins as a conditional and is none
pub record IsFirstBad (lines : List (List ℕ)) (number : ℕ) : Type 0 where
  pub place : ℕ
  pub numbered : number ≡ place + 1
  pub here : IsBadAt lines place
  pub first : (before : ℕ) → before < place → ¬ IsBadAt lines before

-- The lines each have a kind, and the first fault in their nesting is this one, at the line of a number from 1. The fault is one
-- of the two that tell a line.
pub record IsNestedWrongly (lines : List (List ℕ)) (fault : ℕ → CondFault) (number : ℕ) : Type 0 where
  pub kinds : List LineKind
  pub kinds_are : AllZip IsKind lines kinds
  pub place : ℕ
  pub numbered : number ≡ place + 1
  pub is : IsFirstNestingFault kinds (fault place)

-- what lines come to: an ill spelled line goes before ill nested ones
abbrev pub IsReading : List (List ℕ) → Reading → Type 0
IsReading lines (Lines kinds pairs) = AllZip IsKind lines kinds × ArePairs kinds pairs
IsReading lines (Misspelled number) = IsFirstBad lines number
IsReading lines (Misnested number) = IsNestedWrongly lines cond.Unbalanced number
IsReading lines (TooNested number) = IsNestedWrongly lines cond.CondDepth number

-- what is found under a name
pub data Source : Type 0 where
  Absent : Source
  -- more bytes than a file may have
  Long : Source
  Held : (bytes : List ℕ) (reading : Reading) → Source

-- what is found where a shelf has nothing, or these bytes
abbrev pub IsSource : Option (List ℕ) → Source → Type 0
IsSource None source = source ≡ Absent
IsSource (Some bytes) Absent = ⊥
IsSource (Some bytes) Long = most_bytes < length bytes
IsSource (Some bytes) (Held held reading) = (held ≡ bytes) × (length bytes ≤ most_bytes) × IsReading (lines_of bytes) reading

-- what is found under each name
abbrev pub Sources : Type 0
Sources = List ℕ → Source

-- what is found under each name of these files
abbrev pub AreSources : Files → Sources → Type 0
AreSources files sources = (name : List ℕ) → IsSource (files name) (sources name)
