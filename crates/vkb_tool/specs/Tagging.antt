-- What is read of the files of a request to tag, and what is told of them: for private contracts alone. No public contract names it.
use Rattle.std.specs.Prelude.{◌≡◌, ℕ, List, Option, Some, None, IfSome, slice_get, Result, Ok, Err, Vec}
use Rattle.std.specs.declared.alloc.Global.{Global}
use Rattle.vkb_outside.specs.Shelf.{Files}
use Rattle.doc_tree.specs.Answer.{told_of}
use Rattle.doc_tree.specs.declared.fault.DocFault.{DocFault}
use Rattle.vu_tags.specs.Tagged.{CanTag, IsTagFault, Names, TellsPages}
use Rattle.vu_tags.specs.declared.TagFault.TheVariants as tags
use Rattle.vkb_tool.specs.declared.status.Status.TheVariants.{Refused}
use Rattle.vkb_tool.specs.Fault.{BadTag, NoNumber}
use Rattle.vkb_tool.specs.Outcome.{Effect, puts_tags, writes_alone}
use Rattle.vkb_tool.specs.Report.{fault_line}
use Rattle.vkb_tool.specs.Tags.{found_fault, read_fault, texts_of}

-- what is answered for what is found under a name, where so many bytes have room
abbrev pub ReadsFile : ℕ → List ℕ → Option (List ℕ) → Result (Vec ℕ Global) DocFault → Type 0
ReadsFile room name found (Ok bytes) = (found ≡ Some bytes.items) × (found_fault room name found ≡ None)
ReadsFile room name found (Err fault) = IfSome (told_of fault) (λ told. found_fault room name found ≡ Some told)

-- what is answered for the names of files that are read in order, where so many bytes have room
abbrev pub ReadsFiles : Files → ℕ → List (List ℕ) → Result (Vec (List ℕ) Global) DocFault → Type 0
ReadsFiles files room names (Ok texts) = (read_fault files room names ≡ None) × (texts.items ≡ texts_of files names)
ReadsFiles files room names (Err fault) = IfSome (told_of fault) (λ told. read_fault files room names ≡ Some told)

-- the first malformed tag of the texts is told, by the name of its file
pub record TellsBadTag (names texts : List (List ℕ)) (first : ℕ) (effect : Effect) : Type 0 where
  pub place : ℕ
  pub line : ℕ
  pub file : List ℕ
  pub named : slice_get names place ≡ Some file
  pub is : IsTagFault first texts (tags.BadTag place line)
  pub told : effect ≡ writes_alone Refused (fault_line (BadTag file line))

-- that the numbers don't suffice is told
pub record TellsNoNumber (texts : List (List ℕ)) (first : ℕ) (effect : Effect) : Type 0 where
  pub needed : ℕ
  pub left : ℕ
  pub is : IsTagFault first texts (tags.NoNumber needed left)
  pub told : effect ≡ writes_alone Refused (fault_line (NoNumber needed left))

-- the new tags are told, and the files that change are put
pub record TellsTags (names texts : List (List ℕ)) (first : ℕ) (effect : Effect) : Type 0 where
  pub can : CanTag first texts
  pub told : (pages : Names) → TellsPages pages → effect ≡ puts_tags pages first names texts

-- what is told of the texts of files
pub data TellsOfTags (names texts : List (List ℕ)) (first : ℕ) (effect : Effect) : Type 0 where
  bad_tag : TellsBadTag names texts first effect → TellsOfTags names texts first effect
  no_number : TellsNoNumber texts first effect → TellsOfTags names texts first effect
  new_tags : TellsTags names texts first effect → TellsOfTags names texts first effect
