-- What the answer to loading a document comes to.
use Rattle.std.specs.Prelude.{◌≡◌, ℕ, List, [], Option, Some, None, IfSome, Result, Ok, Err}
use Rattle.vkb_outside.specs.Faults.{Rose}
use Rattle.vkb_outside.specs.Shelf.{Files}
use Rattle.doc_tree.specs.declared.Document.{Document}
use Rattle.doc_tree.specs.declared.fault.DocFault.{DocFault}
use Rattle.doc_tree.specs.declared.fault.DocFault.TheVariants as doc
use Rattle.doc_tree.specs.Fault.{Fault, Missing, TooLarge, IncludeDepth, DocTooLong, NameLimit, BadCondition, Unbalanced, CondDepth}
use Rattle.doc_tree.specs.Loaded.{flat_of}
use Rattle.doc_tree.specs.Names.{each_once}
use Rattle.doc_tree.specs.Sources.{Sources}
use Rattle.doc_tree.specs.Walk.{Step, first_fault, opened, taken}

-- what is told of the document; nothing, where the shelf failed or memory ran out
abbrev pub told_of : DocFault → Option Fault
told_of doc.ReadFault = None
told_of (doc.Missing name) = Some (Missing name)
told_of (doc.TooLarge name) = Some (TooLarge name)
told_of (doc.IncludeDepth name line) = Some (IncludeDepth name line)
told_of (doc.DocTooLong name line) = Some (DocTooLong name line)
told_of (doc.NameLimit name line) = Some (NameLimit name line)
told_of (doc.BadCondition name line) = Some (BadCondition name line)
told_of (doc.Unbalanced name line) = Some (Unbalanced name line)
told_of (doc.CondDepth name line) = Some (CondDepth name line)
told_of doc.Memory = None

-- where so many bytes have room: a document comes from steps without a fault, its lines are those that they take, and its files
-- those that they open, each where it is opened first; what is told is their first fault
abbrev pub Answers : Sources → ℕ → List Step → List ℕ → Result Document DocFault → Type 0
Answers sources room steps text (Ok d) = (first_fault sources room [] steps ≡ None) × (flat_of text d ≡ taken steps) × (d.files ≡ each_once (opened steps))
Answers sources room steps text (Err fault) = IfSome (told_of fault) (λ told. first_fault sources room [] steps ≡ Some told)

-- it holds of some files; where a shelf tells its files, of these
pub record IsReadBy (told : Option Files) (P : Files → Type 0) : Type 0 where
  pub files : Files
  pub told_are : IfSome told (λ holds. files ≡ holds)
  pub holds : P files

-- the count of failed reads rises only where a read failed
abbrev pub CountsLoad : {X : Type 0} → ℕ → ℕ → Result X DocFault → Type 0
CountsLoad before now (Ok loaded) = now ≡ before
CountsLoad before now (Err doc.ReadFault) = Rose before now
CountsLoad before now (Err (doc.Missing name)) = now ≡ before
CountsLoad before now (Err (doc.TooLarge name)) = now ≡ before
CountsLoad before now (Err (doc.IncludeDepth name line)) = now ≡ before
CountsLoad before now (Err (doc.DocTooLong name line)) = now ≡ before
CountsLoad before now (Err (doc.NameLimit name line)) = now ≡ before
CountsLoad before now (Err (doc.BadCondition name line)) = now ≡ before
CountsLoad before now (Err (doc.Unbalanced name line)) = now ≡ before
CountsLoad before now (Err (doc.CondDepth name line)) = now ≡ before
CountsLoad before now (Err doc.Memory) = now ≡ before
