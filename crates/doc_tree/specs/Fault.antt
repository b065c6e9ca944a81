-- What is wrong with a document, each fault with its file. Lines count from 1.
use Rattle.std.specs.Prelude.{ℕ, List}

pub data Fault : Type 0 where
  -- there is no such file
  Missing : (file : List ℕ) → Fault
  -- the file has too many bytes
  TooLarge : (file : List ℕ) → Fault
  -- the include line of a file would open a file within 16 others
  IncludeDepth : (file : List ℕ) (line : ℕ) → Fault
  -- the document would have too many lines with this line of a file, or, at line 0, too many bytes with the file
  DocTooLong : (file : List ℕ) (line : ℕ) → Fault
  -- the conditions would have too many names with those of a line of the file
  NameLimit : (file : List ℕ) (line : ℕ) → Fault
  -- a line of the file begins as a conditional and is none
  BadCondition : (file : List ℕ) (line : ℕ) → Fault
  -- a line of the file closes nothing, or repeats other names than its opener, or opens what nothing closes
  Unbalanced : (file : List ℕ) (line : ℕ) → Fault
  -- a line of the file opens a conditional within 64 others of its file
  CondDepth : (file : List ℕ) (line : ℕ) → Fault
